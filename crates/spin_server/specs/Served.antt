-- What a spin server can look up ("Spin Image Available Message", "Spin Request Message").
use Rattle.std.specs.Prelude.{ℕ, Bool, ◌==◌, List}
use Rattle.std.specs.List.{list_any}
use Rattle.pitch_model.specs.Advertising.{last_ten}

-- the unit's messages so far, and the distinct sequences that were advertised, in their order
pub record Served : Type 0 where
  pub messages : List (List ℕ)
  pub advertised : List ℕ

-- the image through a sequence can be had: it is one of the last ten that were advertised
abbrev pub is_served : Served → ℕ → Bool
is_served v sequence = list_any (λ n. n == sequence) (last_ten v.advertised)
