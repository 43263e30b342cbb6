-- What a venue accepted only grows, and no more of it was sent.
use Rattle.std.proofs.Common.{◌≡◌, ◌≤◌, List, [], ◌∷◌, ◌++◌, length, refl, sym, ap, ◌∙◌, subst, arith, length-append, Option, Some, None}
use Rattle.std.proofs.lemmas.List.{append-nil}
use Rattle.pitch_model.specs.History.{Raw}
use Rattle.pitch_text.specs.declared.command.Command.{Command}
use Rattle.venue_core.specs.Commands.{raw_of}
use Rattle.venue_core.specs.Refusals.{refusal}
use Rattle.venue_core.specs.declared.error.VenueError.{VenueError}
use Rattle.venue_end.specs.Came.{VenueCame, VenueState, Commanded, Flushed, Beaten, Advertised, ProxyMade, ProxyTook, ProxyPut, ProxyCut, SpinMade, SpinTook, SpinPumped, SpinPut, SpinCut, Second, AllCut, commanded_on, venue_after, venue_step}
use Rattle.venue_end.specs.declared.setup.VenueSetup.{VenueSetup}

-- from one state to a later one
pub record Grows (now later : VenueState) : Type 0 where
  pub more : List Raw
  pub messages_are : later.messages ≡ now.messages ++ more
  pub within : now.sent ≤ length now.messages → later.sent ≤ length later.messages

stays : (now later : VenueState) → later.messages ≡ now.messages → later.sent ≡ now.sent → Grows now later
stays now later messages sent = record {
  more = [];
  messages_are = messages ∙ sym (append-nil now.messages);
  within = λ le. omega (arith, le, sent, ap length messages);
}

commanded : (r : Option VenueError) (command : Command) (now : VenueState) → Grows now (commanded_on r command now)
commanded (Some error) command now = stays now now refl refl
commanded None command now = record {
  more = raw_of command ∷ [];
  messages_are = refl;
  within = λ le. omega (arith, le, length-append now.messages (raw_of command ∷ []));
}

module _ (s : VenueSetup) where
  pub grows_at : (came : VenueCame) (now : VenueState) → Grows now (venue_step s came now)
  grows_at (Commanded command) now = commanded (refusal now.messages command) command now
  grows_at Flushed now = record { more = []; messages_are = sym (append-nil now.messages); within = λ le. omega arith }
  grows_at Beaten now = stays now _ refl refl
  grows_at Advertised now = stays now _ refl refl
  grows_at (ProxyMade id) now = stays now _ refl refl
  grows_at (ProxyTook id bytes) now = stays now _ refl refl
  grows_at (ProxyPut id count) now = stays now _ refl refl
  grows_at (ProxyCut id) now = stays now _ refl refl
  grows_at (SpinMade id) now = stays now _ refl refl
  grows_at (SpinTook id bytes) now = stays now _ refl refl
  grows_at (SpinPumped id) now = stays now _ refl refl
  grows_at (SpinPut id count) now = stays now _ refl refl
  grows_at (SpinCut id) now = stays now _ refl refl
  grows_at Second now = stays now _ refl refl
  grows_at AllCut now = stays now _ refl refl

  pub sent_within : (before : List VenueCame) → (venue_after s before).sent ≤ length (venue_after s before).messages
  sent_within [] = omega arith
  sent_within (came ∷ before) = (grows_at came (venue_after s before)).within (sent_within before)

  -- what holds of its messages also holds where there are more
  module _ (P : List Raw → Type 0) (keeps : (V more : List Raw) → P V → P (V ++ more)) where
    pub still_at : (came : VenueCame) (now : VenueState) → P now.messages → P (venue_step s came now).messages
    still_at came now is = let g = grows_at came now in subst P (sym g.messages_are) (keeps now.messages g.more is)

    pub still_after : (later before : List VenueCame) → P (venue_after s before).messages → P (venue_after s (later ++ before)).messages
    still_after [] before is = is
    still_after (came ∷ later) before is = still_at came (venue_after s (later ++ before)) (still_after later before is)
