use Rattle.std.proofs.Common.{List, ℕ, ◌+◌, length, sym, ap, subst, arith}
use Rattle.client_core.specs.layers.Items.{message_count}
use Rattle.client_core.specs.Client.{held_number}
use Rattle.pitch_model.specs.History.{Entry}
use Rattle.pitch_model.specs.Honest.{AreVenues, Honest}
use Rattle.heard_items.specs.Heard.{heard}
use Rattle.heard_items.proofs.Honesty.{honest_messages}
use Rattle.client_core.proofs.client.UnitClient.hear_item.Given.{Over}
use Rattle.client_core.proofs.client.UnitClient.hear_item.Goals as goal

are : (g : Over) (c : goal.After-heard g) (Image : List (List ℕ) → ℕ → List (List ℕ)) (V : List (List ℕ)) (E : List Entry) → Honest Image V (heard c.args.item.now E) → AreVenues V c.in-Messages.first c.raws.result
are g c Image V E honest =
    subst (AreVenues V c.in-Messages.first) (sym c.raws.ensures) (honest_messages Image V c.in-Messages.first c.in-Messages.raws.items E (subst (λ item. Honest Image V (heard item E)) c.in-Messages.is honest))

pub returns-in-Messages-clause-keeps : goal.returns-in-Messages-clause-keeps
returns-in-Messages-clause-keeps g c = λ Image V law H E T honest K. c.in_ok-counts-in-Messages.ensures.keeps V (are g c Image V E honest) K

pub returns-in-Messages-clause-venues : goal.returns-in-Messages-clause-venues
returns-in-Messages-clause-venues g c = λ other Image V E honest K. c.in_ok-counts-in-Messages.ensures.venues V (are g c Image V E honest) K

pub returns-in-SpinFinished-clause-keeps : goal.returns-in-SpinFinished-clause-keeps
returns-in-SpinFinished-clause-keeps g c = λ Image V law H E T honest K.
    c.in_ok-image-in-SpinFinished.ensures.keeps Image V law H E T (subst (λ item. Honest Image V (heard item E)) c.in-SpinFinished.is honest).0 K

pub returns-in-Messages-clause-room : goal.returns-in-Messages-clause-room
returns-in-Messages-clause-room g c = λ other more r.
    let count = ap message_count c.in-Messages.is in
    let same = ap (λ (raws : List (List ℕ)). length raws) c.raws.ensures in
    c.in_ok-counts-in-Messages.ensures.room more
    (g.met.N.Notes.fewer c.args.notes.now ((length c.raws.result + held_number c.args.self.now) + more) ((message_count c.args.item.now + held_number c.args.self.now) + more) (omega arith) r)
