-- The store with what contracts alone see of its past, and what may be done to this past.
use Rattle.std.specs.Prelude.{if◌then◌else◌, ℕ, List, Option, Some, None}
use Rattle.std.specs.FinMap.{FinMap, empty}
use Rattle.map_words.specs.Maps.{set_at}
use Rattle.tect_ids.specs.declared.ids.BlkId.{BlkId}
use Rattle.tect_ids.specs.declared.ids.DiskId.{DiskId}
use Rattle.tect_ids.specs.declared.ids.FileId.{FileId}
use Rattle.tect_ids.specs.declared.ids.Hold.{Hold}
use Rattle.tect_ids.specs.declared.ids.Node.{Node}
use Rattle.tect_ids.specs.declared.ids.Node.TheVariants.{Dir}
use Rattle.tect_ids.specs.declared.ids.OpId.{OpId}
use Rattle.tect_ids.specs.declared.ids.Tag.{Tag}
use Rattle.tect_ids.specs.declared.key.Key.{Key}
use Rattle.tect_ids.specs.declared.values.Class.{Class}
use Rattle.tect_ids.specs.declared.values.NewRow.{NewRow}
use Rattle.tect_ids.specs.Keys.{blk_eq, hold_eq, node_eq, op_eq, node_cmp}
use Rattle.tect_ids.specs.Numbers.{root}
use Rattle.store_rules.specs.declared.names.DirectoryEntry.{DirectoryEntry}
use Rattle.store_rules.specs.Store.{Store}
pub use Rattle.store_pasts.specs.Contents.{RowPhase, RowLive, RowSet, RowPast, RowGiven, Born, TagHome}
use Rattle.store_pasts.specs.Contents.{disk_at}

-- how far a hold has come: granted and not bound yet, bound, or given up
pub data HoldPhase : Type 0 where
  Live : HoldPhase
  Set : HoldPhase
  Past : HoldPhase

-- a hold that was granted: the node that it holds, the key that it was granted for, and how far it has come
pub record Given : Type 0 where
  pub lower : Node
  pub upper : Key
  pub phase : HoldPhase

-- What the store forgets: the nodes that were ever made, the holds that were ever granted for entries, and the key where each node is
-- named, or was named last; the holds that were ever granted for rows, what each block was made as, and the row that each tag was given
-- to. Beside it stands what no request says: the bytes that an op's command appends, from its begin on.
pub record Ghost : Type 0 where
  pub made : FinMap node_cmp (Unit {0})
  pub given : Hold → Option Given
  pub home : Node → Option Key
  pub row_given : Hold → Option RowGiven
  pub born : BlkId → Option Born
  pub tagged : Tag → Option TagHome
  pub said : OpId → Option (List ℕ)

-- the store and its past
pub record World : Type 0 where
  pub store : Store
  pub ghost : Ghost

-- nothing was made but the root
abbrev pub opening_ghost : Ghost
opening_ghost = record {
  made = set_at empty (Dir root) (Some tt);
  given = λ h. None;
  home = λ n. None;
  row_given = λ h. None;
  born = λ b. None;
  tagged = λ t. None;
  said = λ op. None;
}

-- the holds with that one changed
abbrev pub with_hold : (Hold → Option Given) → Hold → Option Given → Hold → Option Given
with_hold given h g x = if hold_eq x h then g else given x

-- the homes with that one changed
abbrev pub with_home : (Node → Option Key) → Node → Key → Node → Option Key
with_home home n k x = if node_eq x n then Some k else home x

-- the holds once the entry at that key stands no more
abbrev pub without_entry : (Hold → Option Given) → Key → Option DirectoryEntry → Hold → Option Given
without_entry given k None = given
without_entry given k (Some e) = with_hold given e.hold (Some record { lower = e.node; upper = k; phase = Past })

-- a node is made, with a hold for that key
abbrev pub ghost_made : Ghost → Node → Hold → Key → Ghost
ghost_made g n h k =
    record g { made = set_at g.made n (Some tt); given = with_hold g.given h (Some record { lower = n; upper = k; phase = Live }) }

-- a hold is granted for that key
abbrev pub ghost_granted : Ghost → Node → Hold → Key → Ghost
ghost_granted g n h k = record g { given = with_hold g.given h (Some record { lower = n; upper = k; phase = Live }) }

-- the entry at that key is replaced by one that names the node
abbrev pub ghost_bound : Ghost → Option DirectoryEntry → Key → Node → Hold → Ghost
ghost_bound g old k n h =
    record g {
      given = with_hold (without_entry g.given k old) h (Some record { lower = n; upper = k; phase = Set });
      home = with_home g.home n k;
    }

-- the entry at that key is taken away
abbrev pub ghost_unbound : Ghost → Option DirectoryEntry → Key → Ghost
ghost_unbound g old k = record g { given = without_entry g.given k old }

-- ---- blocks and the rows of files

-- the holds of rows with that one changed
abbrev pub with_row_hold : (Hold → Option RowGiven) → Hold → RowGiven → Hold → Option RowGiven
with_row_hold given h g x = if hold_eq x h then Some g else given x

-- what blocks were made as, with that one
abbrev pub with_born : (BlkId → Option Born) → BlkId → Born → BlkId → Option Born
with_born born b m x = if blk_eq x b then Some m else born x

-- a tag is the block's where it was given to a row of it
abbrev pub home_or : BlkId → Option DiskId → Option TagHome → Option TagHome
home_or b None was = was
home_or b (Some d) was = Some record { blk = b; disk = d }

-- the homes of tags with those of the block's rows
abbrev pub with_tags : (Tag → Option TagHome) → BlkId → List NewRow → Tag → Option TagHome
with_tags tagged b rs t = home_or b (disk_at rs t) (tagged t)

-- a hold is granted for a row of that file
abbrev pub ghost_row_granted : Ghost → BlkId → Hold → FileId → Ghost
ghost_row_granted g b h f = record g { row_given = with_row_hold g.row_given h record { blk = b; file = f; phase = RowLive } }

-- a block is made, with its rows and a hold for a row of that file
abbrev pub ghost_born : Ghost → BlkId → Class → ℕ → FileId → Hold → List NewRow → Ghost
ghost_born g b c n f h rs =
    record g {
      row_given = with_row_hold g.row_given h record { blk = b; file = f; phase = RowLive };
      born = with_born g.born b record { maker = h.op; class = c; len = n; rows = rs };
      tagged = with_tags g.tagged b rs;
    }

-- the hold is bound at the row with that index
abbrev pub ghost_attached : Ghost → BlkId → FileId → Hold → ℕ → Ghost
ghost_attached g b f h i = record g { row_given = with_row_hold g.row_given h record { blk = b; file = f; phase = RowSet i } }

-- what is said first stays
abbrev pub first_said : Option (List ℕ) → List ℕ → Option (List ℕ)
first_said None bytes = Some bytes
first_said (Some was) bytes = Some was

abbrev pub with_said : (OpId → Option (List ℕ)) → OpId → List ℕ → OpId → Option (List ℕ)
with_said said op bytes x = if op_eq x op then first_said (said x) bytes else said x

-- a command begins, which appends these bytes if it appends any
abbrev pub ghost_said : OpId → Option (List ℕ) → Ghost → Ghost
ghost_said op None g = g
ghost_said op (Some bytes) g = record g { said = with_said g.said op bytes }
