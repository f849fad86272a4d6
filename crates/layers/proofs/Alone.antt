-- what the dump of a store shows in which one shard stands
use Rattle.std.proofs.Common.{◌≡◌, ℕ, List, [], ◌∷◌, map, length, append-nil, refl, sym, ap, ◌∙◌, arith}
use Rattle.std.specs.List.{flat_map}
use Rattle.std.specs.declared.cmp.Ordering.{Ordering}
use Rattle.std.specs.FinMap.{empty, entries, len-entries, len-empty}
use Rattle.tect_ids.specs.Keys.{blk_cmp, chunk_cmp, dir_cmp, file_cmp}
use Rattle.store_rules.specs.declared.blocks.Block.{Block}
use Rattle.store_rules.specs.declared.files.File.{File}
use Rattle.store_rules.specs.declared.names.Directory.{Directory}
use Rattle.store_rules.specs.Alone.{blocks_alone, chunks_alone, files_alone, names_alone}
use Rattle.store_rules.specs.Blocks.{Blocks}
use Rattle.store_rules.specs.Disks.{Chunks}
use Rattle.store_rules.specs.Names.{Names, no_names}
use Rattle.store_rules.specs.Files.{Files}
use Rattle.store_rules.specs.Dumps.{block_line, chunk_line, dir_lines, file_line}
use Rattle.store_rules.specs.Dumps.{blocks_dump, chunks_dump, files_dump, names_dump, store_dump}

nothing : {A : Type 0} (es : List A) → length es ≡ 0 → es ≡ []
nothing [] none = refl
nothing (x ∷ es) none = absurd (omega (arith, none))

pub none_in : {K : Type 0} (X : Type 0) (R : K → K → Ordering) → entries (empty {X = X} {R = R}) ≡ []
none_in X R = nothing _ (sym (len-entries (empty {X = X} {R = R})) ∙ len-empty R X)

no_names_shown : names_dump no_names ≡ []
no_names_shown = ap (flat_map (dir_lines no_names)) (none_in Directory dir_cmp)

no_files_shown : files_dump empty ≡ []
no_files_shown = ap (map file_line) (none_in File file_cmp)

no_blocks_shown : blocks_dump empty ≡ []
no_blocks_shown = ap (map block_line) (none_in Block blk_cmp)

no_chunks_shown : chunks_dump empty ≡ []
no_chunks_shown = ap (map chunk_line) (none_in (List ℕ) chunk_cmp)

pub names_shown_alone : (s : Names) → store_dump (names_alone s) ≡ names_dump s
names_shown_alone s = rw (no_files_shown, no_blocks_shown, no_chunks_shown) (append-nil (names_dump s))

pub files_shown_alone : (s : Files) → store_dump (files_alone s) ≡ files_dump s
files_shown_alone s = rw (no_names_shown, no_blocks_shown, no_chunks_shown) (append-nil (files_dump s))

pub blocks_shown_alone : (s : Blocks) → store_dump (blocks_alone s) ≡ blocks_dump s
blocks_shown_alone s = rw (no_names_shown, no_files_shown, no_chunks_shown) (append-nil (blocks_dump s))

pub chunks_shown_alone : (s : Chunks) → store_dump (chunks_alone s) ≡ chunks_dump s
chunks_shown_alone s = rw (no_names_shown, no_files_shown, no_blocks_shown) refl
