-- What comes to an end, and what then waits.
use Rattle.std.proofs.Common.{◌≡◌, ℕ, List, [], ◌∷◌, ◌++◌, sym, subst, ap, ◌∙◌}
use Rattle.std.proofs.lemmas.List.{append-nil}
use Rattle.client_end.specs.Came.{Came, EndState, end_after, end_step, to_proxy, to_spin_server}
use Rattle.client_end.specs.Stands.{OfEnd, EndStands}
use Rattle.client_end.specs.declared.end.ClientEnd.{ClientEnd}
use Rattle.sending_end.specs.Waiting.{kept_for, waited_for_proxy, waited_for_spin_server}
use Rattle.sending_end.specs.Stands.{Passes}
use Rattle.sending_end.specs.declared.end.SendingEnd.{SendingEnd}

-- what waited for a connection that does not stand is dropped
pub record Settled (m e' : SendingEnd) : Type 0 where
  pub unit : e'.unit ≡ m.unit
  pub end : e'.end ≡ m.end
  pub proxy : OfEnd m.end (λ s before. e'.grp_said.items ≡ kept_for (end_after s before).grp m.grp_said.items)
  pub spin_server : OfEnd m.end (λ s before. e'.spin_said.items ≡ kept_for (end_after s before).spin m.spin_said.items)

-- this came to it, and this was said, before what waited was dropped
pub record Before (e m : SendingEnd) (came : Came) : Type 0 where
  pub unit : m.unit ≡ e.unit
  pub comes : OfEnd e.end (λ s before. EndStands s m.end (came ∷ before))
  pub proxy : OfEnd e.end (λ s before. m.grp_said.items ≡ waited_for_proxy came e.grp_said.items ++ to_proxy s came (end_after s before))
  pub spin_server : OfEnd e.end (λ s before. m.spin_said.items ≡ waited_for_spin_server came e.spin_said.items ++ to_spin_server s came (end_after s before))

pub passes_so : (e m e' : SendingEnd) (came : Came) → Before e m came → Settled m e' → Passes e e' came
passes_so e m e' came b t s before is =
    let now : EndState = end_after s before in
    let at : EndStands s m.end (came ∷ before) = b.comes s before is.end_is in
    record {
      stands = record {
        unit_is = t.unit ∙ b.unit ∙ is.unit_is;
        end_is = subst (λ (end : ClientEnd). EndStands s end (came ∷ before)) (sym t.end) at;
      };
      proxy = t.proxy s (came ∷ before) at ∙ ap (kept_for (end_step s came now).grp) (b.proxy s before is.end_is);
      spin_server = t.spin_server s (came ∷ before) at ∙ ap (kept_for (end_step s came now).spin) (b.spin_server s before is.end_is);
    }

-- where nothing is said, what waited waits
pub nothing_more : (waiting : List ℕ) → waiting ≡ waiting ++ []
nothing_more waiting = sym (append-nil waiting)
