-- A list that grows at its end, and for how many items more there is room.
use Rattle.std.specs.Prelude.{ℕ, List, refl}
use Rattle.std.specs.Coded.{Coded, code_by, coded×, coded_ℕ, coded_list}

pub record Logged (T : Type 0) : Type 0 where
  pub items : List T
  pub spare : ℕ

abbrev pub logged_code : {T : Type 0} → Coded T → Coded (Logged T)
logged_code {T} code =
    code_by (List T × ℕ) (coded× (coded_list code) coded_ℕ) (λ e. (e.items, e.spare)) (λ p. record { items = p.0; spare = p.1 }) (λ _. refl)
