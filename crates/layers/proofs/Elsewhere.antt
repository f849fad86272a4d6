-- In a shard of one layer nothing of another stands.
use Rattle.std.proofs.Common.{◌≡◌, ℕ, List, [], ◌++◌, map, append-nil, refl, sym, ap, ◌∙◌, arith}
use Rattle.std.specs.FinMap.{empty}
use Rattle.tect_ids.specs.declared.ids.BlkId.{BlkId}
use Rattle.tect_ids.specs.declared.ids.DirId.{DirId}
use Rattle.tect_ids.specs.declared.ids.DiskId.{DiskId}
use Rattle.tect_ids.specs.declared.ids.FileId.{FileId}
use Rattle.tect_ids.specs.declared.ids.Layer.{Layer}
use Rattle.tect_ids.specs.declared.ids.Layer.TheVariants as layers
use Rattle.tect_ids.specs.Keys.{blk_cmp, dir_cmp, file_cmp}
use Rattle.key_words.proofs.Lookups.{maps}
use Rattle.store_rules.specs.declared.blocks.Block.{Block}
use Rattle.store_rules.specs.declared.files.File.{File}
use Rattle.store_rules.specs.declared.names.Directory.{Directory}
use Rattle.store_rules.specs.Alone.{blocks_alone, chunks_alone, files_alone, names_alone, no_store}
use Rattle.store_rules.specs.Blocks.{Blocks}
use Rattle.store_rules.specs.Disks.{Chunks}
use Rattle.store_rules.specs.Files.{Files}
use Rattle.store_rules.specs.Names.{Names, no_names}
use Rattle.store_rules.specs.Store.{Store}
use Rattle.name_shard.specs.DirDumps.{dir_dump}
use Rattle.layers.specs.Dumps.{block_dump, file_dump, ids_of, lines_of}
use Rattle.layers.proofs.Alone.{none_in}
use Rattle.layers.proofs.ByDisk.{no_disks, none_on_disk}

-- a list grows by nothing
pub none_added : {A : Type 0} (xs ys : List A) → ys ≡ [] → xs ≡ xs ++ ys
none_added {A = A} xs ys none = sym (ap (λ (zs : List A). xs ++ zs) none ∙ append-nil xs)

-- the store has nothing of the layer
abbrev pub HasNone : Layer → Store → Type 0
HasNone l s = (ids_of l s ≡ []) × ((id : ℕ) → lines_of l s id ≡ [])

no_dir : (d : DirId) → dir_dump no_names d ≡ []
no_dir d = grind (arith, maps)

no_file : (f : FileId) → file_dump empty f ≡ []
no_file f = grind (arith, maps)

no_block : (b : BlkId) → block_dump empty b ≡ []
no_block b = grind (arith, maps)

none_anywhere : (l : Layer) → HasNone l no_store
none_anywhere layers.Names =
    (ap (λ es. map (λ (d : DirId). d.0) (map (λ e. e.0) es)) (none_in Directory dir_cmp), λ id. no_dir (record { 0 = id }))
none_anywhere layers.Files =
    (ap (λ es. map (λ (f : FileId). f.0) (map (λ e. e.0) es)) (none_in File file_cmp), λ id. no_file (record { 0 = id }))
none_anywhere layers.Blocks =
    (ap (λ es. map (λ (b : BlkId). b.0) (map (λ e. e.0) es)) (none_in Block blk_cmp), λ id. no_block (record { 0 = id }))
none_anywhere layers.Disks = (ap (map (λ (d : DiskId). d.0)) no_disks, λ id. none_on_disk (record { 0 = id }))

pub none_by_names : (s : Names) (l : Layer) → (l ≡ layers.Names → ⊥) → HasNone l (names_alone s)
none_by_names s layers.Names other = absurd (other refl)
none_by_names s layers.Files other = none_anywhere layers.Files
none_by_names s layers.Blocks other = none_anywhere layers.Blocks
none_by_names s layers.Disks other = none_anywhere layers.Disks

pub none_by_files : (s : Files) (l : Layer) → (l ≡ layers.Files → ⊥) → HasNone l (files_alone s)
none_by_files s layers.Names other = none_anywhere layers.Names
none_by_files s layers.Files other = absurd (other refl)
none_by_files s layers.Blocks other = none_anywhere layers.Blocks
none_by_files s layers.Disks other = none_anywhere layers.Disks

pub none_by_blocks : (s : Blocks) (l : Layer) → (l ≡ layers.Blocks → ⊥) → HasNone l (blocks_alone s)
none_by_blocks s layers.Names other = none_anywhere layers.Names
none_by_blocks s layers.Files other = none_anywhere layers.Files
none_by_blocks s layers.Blocks other = absurd (other refl)
none_by_blocks s layers.Disks other = none_anywhere layers.Disks

pub none_by_chunks : (s : Chunks) (l : Layer) → (l ≡ layers.Disks → ⊥) → HasNone l (chunks_alone s)
none_by_chunks s layers.Names other = none_anywhere layers.Names
none_by_chunks s layers.Files other = none_anywhere layers.Files
none_by_chunks s layers.Blocks other = none_anywhere layers.Blocks
none_by_chunks s layers.Disks other = absurd (other refl)
