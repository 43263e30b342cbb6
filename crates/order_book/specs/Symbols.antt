-- Trading statuses by their symbols.
use Rattle.std.specs.Prelude.{ℕ, refl}
use Rattle.std.specs.FinMap as map
use Rattle.std.specs.Coded.{Coded, code_by, coded×, coded_ℕ, coded_list}
use Rattle.pitch_model.specs.Book.{symbol_cmp}

-- a halt byte and a sho byte by each symbol
abbrev pub StatusMap : Type 0
StatusMap = map.FinMap symbol_cmp (ℕ × ℕ)

-- the statuses, and how many new symbols need no memory
pub record SymbolsStanding : Type 0 where
  pub statuses : StatusMap
  pub spare : ℕ

abbrev pub statuses_code : Coded StatusMap
statuses_code = map.code (coded_list coded_ℕ) (coded× coded_ℕ coded_ℕ)

abbrev pub symbols_code : Coded SymbolsStanding
symbols_code = code_by (StatusMap × ℕ) (coded× statuses_code coded_ℕ)
    (λ s. (s.statuses, s.spare)) (λ p. record { statuses = p.0; spare = p.1 }) (λ _. refl)
