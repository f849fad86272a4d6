-- What a dump shows of a store, layer by layer.
use Rattle.std.specs.Prelude.{ℕ, List, [], ◌∷◌, map, Option, None, Some, option_map}
use Rattle.std.specs.List.{flat_map}
use Rattle.std.specs.FinMap.{get, keys}
use Rattle.tect_ids.specs.declared.dump.DumpLine.{DumpLine}
use Rattle.tect_ids.specs.declared.ids.BlkId.{BlkId}
use Rattle.tect_ids.specs.declared.ids.FileId.{FileId}
use Rattle.tect_ids.specs.declared.ids.Layer.{Layer}
use Rattle.tect_ids.specs.declared.ids.Layer.TheVariants as layers
use Rattle.store_rules.specs.Blocks.{Blocks}
use Rattle.store_rules.specs.Dumps.{block_line, file_line}
use Rattle.store_rules.specs.Files.{Files}
use Rattle.store_rules.specs.Store.{Store}
use Rattle.name_shard.specs.DirDumps.{dir_dump}
use Rattle.disk_store.specs.Dumps.{disk_dump, disks_of}

-- the identifiers of what a store has of a layer, rising: its directories, its files, its blocks, and the disks that have chunks
abbrev pub ids_of : Layer → Store → List ℕ
ids_of layers.Names s = map (λ d. d.0) (keys s.names.dirs)
ids_of layers.Files s = map (λ f. f.0) (keys s.files)
ids_of layers.Blocks s = map (λ b. b.0) (keys s.blocks)
ids_of layers.Disks s = map (λ d. d.0) (disks_of s.chunks)

-- a line, if there is one
abbrev pub maybe_line : Option DumpLine → List DumpLine
maybe_line None = []
maybe_line (Some line) = line ∷ []

abbrev pub file_dump : Files → FileId → List DumpLine
file_dump s f = maybe_line (option_map (λ row. file_line (f, row)) (get s f))

abbrev pub block_dump : Blocks → BlkId → List DumpLine
block_dump s b = maybe_line (option_map (λ row. block_line (b, row)) (get s b))

-- the lines of what has that identifier in the layer: none where it is not there
abbrev pub lines_of : Layer → Store → ℕ → List DumpLine
lines_of layers.Names s id = dir_dump s.names (record { 0 = id })
lines_of layers.Files s id = file_dump s.files (record { 0 = id })
lines_of layers.Blocks s id = block_dump s.blocks (record { 0 = id })
lines_of layers.Disks s id = disk_dump s.chunks (record { 0 = id })

-- the lines of a layer
abbrev pub layer_dump : Store → Layer → List DumpLine
layer_dump s layer = flat_map (lines_of layer s) (ids_of layer s)
