-- what is sound of parts that are alike where it is read
use Rattle.std.proofs.Common.{◌≡◌, ℕ, Bool, true, List, Option, sym, subst}
use Rattle.tect_ids.specs.declared.ids.BlkId.{BlkId}
use Rattle.tect_ids.specs.declared.ids.DirId.{DirId}
use Rattle.tect_ids.specs.declared.ids.FileId.{FileId}
use Rattle.tect_ids.specs.declared.ids.Hold.{Hold}
use Rattle.tect_ids.specs.declared.ids.Node.{Node}
use Rattle.tect_ids.specs.declared.ids.OpId.{OpId}
use Rattle.tect_ids.specs.declared.ids.Tag.{Tag}
use Rattle.tect_ids.specs.declared.key.Key.{Key}
use Rattle.tect_ids.specs.declared.key.Upper.{Upper}
use Rattle.store_rules.specs.declared.file_rows.FileRow.{FileRow}
use Rattle.store_rules.specs.Disks.{Chunks}
use Rattle.store_pasts.specs.Ghosts.{Given, RowGiven, Born, TagHome}
use Rattle.store_world.specs.Sound.{SoundHolds, SoundNodes, SoundRows, SoundChunks}

same_one : {A B : Type 0} (f g : A → B) → ((a : A) → f a ≡ g a) → f ≡ g
same_one f g e = λ i a. e a i

same_two : {A B C : Type 0} (f g : A → B → C) → ((a : A) (b : B) → f a b ≡ g a b) → f ≡ g
same_two f g e = λ i a b. e a b i

-- holds read of nodes what they list
pub holds_alike : (lists now : Node → Hold → Option Upper) (dead : DirId → OpId → Bool) (given : Hold → Option Given) (made : Node → Bool)
    → ((n : Node) (h : Hold) → now n h ≡ lists n h) → SoundHolds lists dead given made → SoundHolds now dead given made
holds_alike lists now dead given made same s =
    subst (λ (x : Node → Hold → Option Upper). SoundHolds x dead given made) (sym (same_two now lists same)) s

-- nodes are read by whether they stand
pub nodes_alike : (standing now : Node → Bool) (made : Node → Bool) (home : Node → Option Key) → ((n : Node) → now n ≡ standing n)
    → SoundNodes standing made home → SoundNodes now made home
nodes_alike standing now made home same s = subst (λ (x : Node → Bool). SoundNodes x made home) (sym (same_one now standing same)) s

module _ (row : FileId → ℕ → Option FileRow) (lists : BlkId → Hold → Option Upper) (sealed : BlkId → Option ℕ)
    (given : Hold → Option RowGiven) (made : Node → Bool) (s : SoundRows row lists sealed given made) where
  -- rows are read one by one
  pub rows_alike : (now : FileId → ℕ → Option FileRow) → ((f : FileId) (i : ℕ) → now f i ≡ row f i)
      → SoundRows now lists sealed given made
  rows_alike now same = subst (λ (x : FileId → ℕ → Option FileRow). SoundRows x lists sealed given made) (sym (same_two now row same)) s

  -- more is made
  pub rows_made : (more : Node → Bool) → ((n : Node) → made n ≡ true → more n ≡ true) → SoundRows row lists sealed given more
  rows_made more still = record {
    bound = s.bound;
    has_hold = s.has_hold;
    sealed_as = s.sealed_as;
    set = s.set;
    live = s.live;
    listed = s.listed;
    file_made = λ h g is. still _ (s.file_made h g is);
  }

-- chunks are read against whether their blocks are sealed
pub chunks_alike : (chunks : Chunks) (sealed now : BlkId → Bool) (born : BlkId → Option Born) (tagged : Tag → Option TagHome)
    (said : OpId → Option (List ℕ)) → ((b : BlkId) → now b ≡ sealed b) → SoundChunks chunks sealed born tagged said
    → SoundChunks chunks now born tagged said
chunks_alike chunks sealed now born tagged said same s = record {
  at_home = s.at_home;
  content = s.content;
  stored = λ b d t is. s.stored b d t (rw (← same b) is);
}
