-- Kept machines of all kinds, each as the store in which it stands alone.
use Rattle.std.proofs.Common.{◌≡◌, ◌≢◌, ℕ, ◌==◌, Bool, true, false, if◌then◌else◌, Result, Ok, Err, IfOk, refl, sym, ap, ◌∙◌, arith}
use Rattle.tect_ids.specs.declared.ids.Counts.{Counts}
use Rattle.tect_ids.specs.declared.ids.Layer.{Layer}
use Rattle.tect_ids.specs.declared.ids.Layer.TheVariants as layers
use Rattle.tect_ids.specs.Places.{HasPlaces, layer_at, place_number}
use Rattle.tect_ids.proofs.KeyTests.{num_eq_cases}
use Rattle.tect_ids.proofs.Layers.{has_layer}
use Rattle.store_rules.specs.declared.any.AnyReq.{AnyReq}
use Rattle.store_rules.specs.declared.any.AnyReq.TheVariants as any
use Rattle.store_rules.specs.declared.any.AnyReply.{AnyReply}
use Rattle.store_rules.specs.Alone.{names_alone, files_alone, blocks_alone, chunks_alone, opening_of, request_layer}
use Rattle.store_rules.specs.Blocks.{Blocks, block_answer, block_change}
use Rattle.store_rules.specs.Disks.{Chunks, disk_answer, disk_change}
use Rattle.store_rules.specs.Files.{Files, file_answer, file_change}
use Rattle.store_rules.specs.Names.{Names, name_answer, name_change}
use Rattle.store_rules.specs.Outcomes.{changes}
use Rattle.store_rules.specs.Store.{Store, store_step}
use Rattle.entry_words.specs.declared.entry.Entry.{Entry}
use Rattle.passes.specs.declared.pass.Pass.{Pass}
use Rattle.place_kit.specs.declared.any.AnyKept.{AnyKept}
use Rattle.place_kit.specs.declared.any.AnyKept.TheVariants.{Name, File, Block, Disk}
use Rattle.place_kit.specs.Committed.{Committed, Served}
use Rattle.place_kit.specs.Committing.{AnyCommitted, AnyServed}
use Rattle.place_kit.specs.Kept.{base_of, clock_of, history_of, label_of}
use Rattle.place_kit.specs.Machines.{name_after, file_after, block_after, disk_after}
use Rattle.place_kit.specs.Replay.{all_at, stamps_rise}

-- ---- what every kept machine keeps

pub kept_rising : (k : AnyKept) → stamps_rise 0 (clock_of k) (history_of k) ≡ true
kept_rising (Name k) = k.kept.rising
kept_rising (File k) = k.kept.rising
kept_rising (Block k) = k.kept.rising
kept_rising (Disk k) = k.kept.rising

pub kept_placed : (k : AnyKept) → all_at (label_of k).place (history_of k) ≡ true
kept_placed (Name k) = k.kept.placed
kept_placed (File k) = k.kept.placed
kept_placed (Block k) = k.kept.placed
kept_placed (Disk k) = k.kept.placed

pub opened_base : (k : AnyKept) → (label_of k).folded ≡ false → base_of k ≡ opening_of (label_of k).layer (label_of k).rooted
opened_base (Name k) whole = ap names_alone (k.kept.opened whole) ∙ ap (λ (l : Layer). opening_of l k.label.rooted) (sym k.layered)
opened_base (File k) whole = ap files_alone (k.kept.opened whole) ∙ ap (λ (l : Layer). opening_of l k.label.rooted) (sym k.layered)
opened_base (Block k) whole = ap blocks_alone (k.kept.opened whole) ∙ ap (λ (l : Layer). opening_of l k.label.rooted) (sym k.layered)
opened_base (Disk k) whole = ap chunks_alone (k.kept.opened whole) ∙ ap (λ (l : Layer). opening_of l k.label.rooted) (sym k.layered)

-- ---- a request of its layer changes a machine as the store in which it stands alone

names_by : (s n : Names) (b : Bool)
    → (if b then record (names_alone s) { names = n } else names_alone s) ≡ names_alone (if b then n else s)
names_by s n true = refl
names_by s n false = refl

files_by : (s n : Files) (b : Bool)
    → (if b then record (files_alone s) { files = n } else files_alone s) ≡ files_alone (if b then n else s)
files_by s n true = refl
files_by s n false = refl

blocks_by : (s n : Blocks) (b : Bool)
    → (if b then record (blocks_alone s) { blocks = n } else blocks_alone s) ≡ blocks_alone (if b then n else s)
blocks_by s n true = refl
blocks_by s n false = refl

chunks_by : (s n : Chunks) (b : Bool)
    → (if b then record (chunks_alone s) { chunks = n } else chunks_alone s) ≡ chunks_alone (if b then n else s)
chunks_by s n true = refl
chunks_by s n false = refl

pub names_step : (s : Names) (q : AnyReq) → request_layer q ≡ layers.Names → store_step (names_alone s) q ≡ names_alone (name_after s q)
names_step s (any.Name r) own = names_by s (name_change s r) (changes (name_answer s r))
names_step s q own = cc

pub files_step : (s : Files) (q : AnyReq) → request_layer q ≡ layers.Files → store_step (files_alone s) q ≡ files_alone (file_after s q)
files_step s (any.File r) own = files_by s (file_change s r) (changes (file_answer s r))
files_step s q own = cc

pub blocks_step : (s : Blocks) (q : AnyReq) → request_layer q ≡ layers.Blocks → store_step (blocks_alone s) q ≡ blocks_alone (block_after s q)
blocks_step s (any.Block r) own = blocks_by s (block_change s r) (changes (block_answer s r))
blocks_step s q own = cc

pub chunks_step : (s : Chunks) (q : AnyReq) → request_layer q ≡ layers.Disks → store_step (chunks_alone s) q ≡ chunks_alone (disk_after s q)
chunks_step s (any.Disk r) own = chunks_by s (disk_change s r) (changes (disk_answer s r))
chunks_step s q own = cc

-- ---- a transaction at one kind of machine, and at any

module _ (p : Pass) (q : AnyReq) (r : AnyReply) (e : Entry) where
  abbrev pub ServedBy : AnyKept → AnyKept → Type 0
  ServedBy (Name k) (Name l) = Served k l p q r e
  ServedBy (File k) (File l) = Served k l p q r e
  ServedBy (Block k) (Block l) = Served k l p q r e
  ServedBy (Disk k) (Disk l) = Served k l p q r e
  ServedBy old new = ⊥

  pub served : (old new : AnyKept) → (label_of old).layer ≡ request_layer q → ServedBy old new → AnyServed old new p q r e
  served (Name k) (Name l) own s = record {
    label = s.label;
    base = ap names_alone s.base;
    answer = s.answer;
    state = ap names_alone s.state ∙ sym (names_step k.machine q (sym own ∙ k.layered));
    entry_is = s.entry_is;
    history = s.history;
    clock = s.clock;
    early = s.early;
    spare = s.spare;
  }
  served (File k) (File l) own s = record {
    label = s.label;
    base = ap files_alone s.base;
    answer = s.answer;
    state = ap files_alone s.state ∙ sym (files_step k.machine q (sym own ∙ k.layered));
    entry_is = s.entry_is;
    history = s.history;
    clock = s.clock;
    early = s.early;
    spare = s.spare;
  }
  served (Block k) (Block l) own s = record {
    label = s.label;
    base = ap blocks_alone s.base;
    answer = s.answer;
    state = ap blocks_alone s.state ∙ sym (blocks_step k.machine q (sym own ∙ k.layered));
    entry_is = s.entry_is;
    history = s.history;
    clock = s.clock;
    early = s.early;
    spare = s.spare;
  }
  served (Disk k) (Disk l) own s = record {
    label = s.label;
    base = ap chunks_alone s.base;
    answer = s.answer;
    state = ap chunks_alone s.state ∙ sym (chunks_step k.machine q (sym own ∙ k.layered));
    entry_is = s.entry_is;
    history = s.history;
    clock = s.clock;
    early = s.early;
    spare = s.spare;
  }
  served old new own s = absurd s

module _ (p after : Pass) (q : AnyReq) (r : AnyReply) where
  abbrev pub CommittedBy : AnyKept → AnyKept → Type 0
  CommittedBy (Name k) (Name l) = Committed k l p after q r
  CommittedBy (File k) (File l) = Committed k l p after q r
  CommittedBy (Block k) (Block l) = Committed k l p after q r
  CommittedBy (Disk k) (Disk l) = Committed k l p after q r
  CommittedBy old new = ⊥

  pub committed : (old new : AnyKept) → (label_of old).layer ≡ request_layer q → CommittedBy old new → AnyCommitted old new p after q r
  committed (Name k) (Name l) own d = record {
    served = served p q r _ (Name k) (Name l) own d.served;
    actor = d.actor;
    running = d.running;
    trail = d.trail;
    clock = d.clock;
    steps = d.steps;
    bytes = d.bytes;
    spare = d.spare;
  }
  committed (File k) (File l) own d = record {
    served = served p q r _ (File k) (File l) own d.served;
    actor = d.actor;
    running = d.running;
    trail = d.trail;
    clock = d.clock;
    steps = d.steps;
    bytes = d.bytes;
    spare = d.spare;
  }
  committed (Block k) (Block l) own d = record {
    served = served p q r _ (Block k) (Block l) own d.served;
    actor = d.actor;
    running = d.running;
    trail = d.trail;
    clock = d.clock;
    steps = d.steps;
    bytes = d.bytes;
    spare = d.spare;
  }
  committed (Disk k) (Disk l) own d = record {
    served = served p q r _ (Disk k) (Disk l) own d.served;
    actor = d.actor;
    running = d.running;
    trail = d.trail;
    clock = d.clock;
    steps = d.steps;
    bytes = d.bytes;
    spare = d.spare;
  }
  committed old new own d = absurd d

-- ---- the opening

-- only a name shard has the root
pub not_rooted : (c : Counts) (n : ℕ) → HasPlaces c → layer_at c n ≢ layers.Names → (n == place_number c layers.Names 1) ≡ false
not_rooted c n places other = by (n == place_number c layers.Names 1) refl
  where
    by : (b : Bool) → (n == place_number c layers.Names 1) ≡ b → b ≡ false
    by false e = refl
    by true e =
        let here : n ≡ place_number c layers.Names 1 = grind (arith, num_eq_cases n (place_number c layers.Names 1)) in
        absurd (other (ap (layer_at c) here ∙ has_layer c layers.Names 1 places))
