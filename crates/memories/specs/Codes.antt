-- How what an actor knows is stored as plain data, which tells its values apart.
use Rattle.std.specs.Prelude.{ℕ, refl}
use Rattle.std.specs.Coded.{Coded, code_by, coded×, coded_ℕ, coded_list}
use Rattle.std.specs.FinMap as map
use Rattle.tect_ids.specs.declared.ids.Counts.{Counts}
use Rattle.tect_ids.specs.declared.ids.FileId.{FileId}
use Rattle.tect_ids.specs.declared.ids.OpId.{OpId}
use Rattle.tect_ids.specs.Codes.{file_code, op_code}
use Rattle.program_forms.specs.Memories.{OpenedFile, OpenedFiles}
use Rattle.memories.specs.Knowing.{Known}

abbrev pub opened_code : Coded OpenedFile
opened_code = code_by (FileId × OpId) (coded× file_code op_code) (λ o. (o.file, o.token)) (λ p. record { file = p.0; token = p.1 }) (λ _. refl)

abbrev pub opened_files_code : Coded OpenedFiles
opened_files_code = map.code (coded_list (coded_list coded_ℕ)) opened_code

abbrev pub counts_code : Coded Counts
counts_code =
    code_by (ℕ × (ℕ × (ℕ × (ℕ × ℕ)))) (coded× coded_ℕ (coded× coded_ℕ (coded× coded_ℕ (coded× coded_ℕ coded_ℕ))))
    (λ c. (c.names, (c.files, (c.blocks, (c.disks, c.copies)))))
    (λ p. record { names = p.0; files = p.1.0; blocks = p.1.1.0; disks = p.1.1.1.0; copies = p.1.1.1.1 }) (λ _. refl)

abbrev pub known_code : Coded Known
known_code =
    code_by (ℕ × (Counts × (ℕ × OpenedFiles))) (coded× coded_ℕ (coded× counts_code (coded× coded_ℕ opened_files_code)))
    (λ k. (k.actor, (k.counts, (k.memory.serial, k.memory.opened))))
    (λ p. record { actor = p.0; counts = p.1.0; memory = record { serial = p.1.1.0; opened = p.1.1.1 } }) (λ _. refl)
