-- What a client asks for.
use Rattle.std.proofs.Common.{◌≡◌, ℕ, ◌≤◌, cond, List, sym, ap, subst, arith, Some, None, unwrap_or}
use Rattle.std.proofs.lemmas.Bool.{eq-eqb}
use Rattle.pitch_model.specs.History.{Entry}
use Rattle.pitch_model.specs.Reach.{reach}
use Rattle.pitch_model.specs.Status.{top_of}
use Rattle.pitch_model.specs.Asking.{ask_of, ask_with, spin_or_gap, advertised_of}
use Rattle.pitch_model.proofs.Topmost.{reach_le_top}

-- nothing, where the reach is not below the top
pub none_asked : (H n top : ℕ) (E : List Entry) → n ≡ reach H E → Some top ≡ top_of E → top ≤ n → None ≡ ask_of H E
none_asked H n top E e t le =
    let r = reach_le_top H E in
    let same : reach H E ≡ top = (let u : unwrap_or (top_of E) 0 ≡ top = ap (λ o. unwrap_or o 0) (sym t) in omega arith) in
    subst (λ o. None ≡ ask_with H E o) t (sym (ap (λ b. cond b None (spin_or_gap H E top (advertised_of E))) (eq-eqb (reach H E) top same)))
