-- How a store is stored as plain data, which tells its values apart.
use Rattle.std.specs.Prelude.{refl}
use Rattle.std.specs.Coded.{Coded, code_by, coded×}
use Rattle.store_rules.specs.Blocks.{Blocks}
use Rattle.store_rules.specs.Disks.{Chunks}
use Rattle.store_rules.specs.Files.{Files}
use Rattle.store_rules.specs.Names.{Names}
use Rattle.store_rules.specs.Store.{Store}
use Rattle.name_shard.specs.Codes.{names_code}
use Rattle.file_shard.specs.Codes.{files_code}
use Rattle.block_shard.specs.Codes.{blocks_code}
use Rattle.disk_store.specs.Codes.{chunks_code}

abbrev pub store_code : Coded Store
store_code =
    code_by (Names × (Files × (Blocks × Chunks))) (coded× names_code (coded× files_code (coded× blocks_code chunks_code)))
    (λ s. (s.names, (s.files, (s.blocks, s.chunks))))
    (λ p. record { names = p.0; files = p.1.0; blocks = p.1.1.0; chunks = p.1.1.1 }) (λ _. refl)
