-- A client that a heartbeat told of all that was sent, and that is told so after the login too.
use Rattle.std.proofs.Common.{◌≡◌, ℕ, suc, ◌+◌, ◌-◌, ◌<◌, ◌≤◌, Bool, true, cond, List, [], ◌∷◌, ◌++◌, length, refl, sym, ap, ◌∙◌, subst, arith, inl, inr, Option, Some, unwrap_or, length-append, slice_get, reverse}
use Rattle.std.proofs.lemmas.Bool.{ne_eqb}
use Rattle.pitch_fields.specs.Limits.{last_sequence}
use Rattle.pitch_io.specs.declared.line.Line.TheVariants.{A}
use Rattle.pitch_text.specs.declared.verb.Verb.{Verb}
use Rattle.pitch_text.specs.declared.verb.Verb.TheVariants as verbs
use Rattle.unit_packets.specs.Blocks.{Block}
use Rattle.unit_packets.specs.BlockBytes.{block_bytes, heartbeat_block}
use Rattle.unit_packets.specs.Cutting.{blocks_of}
use Rattle.unit_packets.proofs.Written.{written_is}
use Rattle.pitch_model.specs.History.{Raw}
use Rattle.pitch_model.specs.History as entry
use Rattle.pitch_model.specs.Image.{image}
use Rattle.pitch_model.specs.Status.{top_of}
use Rattle.pitch_model.proofs.Honesty.{honest_top}
use Rattle.heard_items.specs.Datagrams.{heard_blocks}
use Rattle.heard_items.proofs.Datagrams.{one_block}
use Rattle.venue_end.specs.Came.{Flushed, on_lines}
use Rattle.world_model.specs.Ends.{venue_setup}
use Rattle.world_model.specs.State.{State}
use Rattle.world_model.specs.Verbs.{hears, state_of, numbered, delivered_on, up_to}
use Rattle.world_model.specs.declared.limits.Limits.{Limits}
use Rattle.world_laws.specs.Rounds.{proxy_login, with_heartbeat, with_rounds, state_after}
use Rattle.world_laws.proofs.EachVerb.{messages_stay}
use Rattle.world_laws.proofs.Lasting.{IsTold, verbs_last, told_lasts}
use Rattle.world_laws.proofs.ProxyRounds.{messages_after, sayable_rounds}
use Rattle.world_laws.proofs.ProxyVerbs.{hears_are}
use Rattle.world_laws.proofs.Reached.{AreSayable, reached, reached_whole}
use Rattle.world_laws.proofs.Recovered.{told_by}

-- ---- The last datagram of a line
last_at : (xs : List (List ℕ)) (d : List ℕ) → slice_get (xs ++ d ∷ []) (length xs) ≡ Some d
last_at [] d = refl
last_at (x ∷ xs) d = last_at xs d

last_numbered : (xs : List (List ℕ)) (d : List ℕ) → numbered (xs ++ d ∷ []) (length (xs ++ d ∷ [])) ≡ Some d
last_numbered xs d = let e : length (xs ++ d ∷ []) ≡ suc (length xs) = omega (arith, length-append xs (d ∷ [])) in ap (numbered (xs ++ d ∷ [])) e ∙ last_at xs d

-- ---- The heartbeat
module _ (unit : ℕ) (small : unit < 256) (limits : Limits) (done : List Verb) (said : AreSayable done) where
  abbrev s : State
  s = state_of unit limits done

  abbrev n : ℕ
  n = length (state_of unit limits done).venue.messages

  abbrev beat : List ℕ
  beat = block_bytes (heartbeat_block unit (length (state_of unit limits done).venue.messages + 1))

  abbrev all : List Verb
  all = with_heartbeat unit limits done

  abbrev before : State
  before = state_of unit limits (verbs.Beat ∷ verbs.Flush ∷ done)

  said_all : AreSayable (with_heartbeat unit limits done)
  said_all = (tt, (tt, (tt, said)))

  few : length (state_of unit limits done).venue.messages ≤ last_sequence
  few = (reached unit limits done said).few

  -- the client gets it
  got : state_of unit limits (with_heartbeat unit limits done) ≡ record (up_to A (length before.sent) (hears unit limits A (blocks_of beat) before)) { begun = true }
  got = ap (λ (o : Option (List ℕ)). record (delivered_on unit limits A (length before.sent) o before).state { begun = true }) (last_numbered (s.sent ++ on_lines (venue_setup unit limits) Flushed s.venue) beat)

  beat_heard : heard_blocks (blocks_of beat) before.client.heard ≡ entry.Next (n + 1) ∷ before.client.heard
  beat_heard =
      let f = few in
      ap (λ (l : List Block). heard_blocks l before.client.heard)
      (one_block beat (heartbeat_block unit (n + 1)) (written_is (heartbeat_block unit (n + 1)) (record { unit = small; sequence = omega (arith, f); size = omega arith; few = omega arith; raws = tt; within = inr (inl refl) }))).0
      ∙ ap (λ (b : Bool). cond b before.client.heard (entry.Next (n + 1) ∷ before.client.heard)) (ne_eqb (n + 1) 0 (λ e. omega (arith, e)))

  told_now : IsTold n (state_of unit limits (with_heartbeat unit limits done)).client.heard
  told_now =
      let m : (n + 1) - 1 ≡ n = omega arith in
      let told : IsTold n (entry.Next (n + 1) ∷ before.client.heard) = subst (λ (k : ℕ). IsTold k (entry.Next (n + 1) ∷ before.client.heard)) m (told_by ((n + 1) - 1) (top_of before.client.heard)) in
      subst (IsTold n) (sym (ap (λ (y : State). y.client.heard) got ∙ ap (λ (y : State). y.client.heard) (hears_are unit limits A (blocks_of beat) before) ∙ beat_heard)) told

  pub told_all : top_of (state_after unit limits (with_heartbeat unit limits done) 0).client.heard ≡ Some (length (state_of unit limits done).venue.messages)
  told_all =
      let x : State = state_after unit limits all 0 in
      let here : IsTold n x.client.heard = verbs_last (IsTold n) (told_lasts n) unit limits (reverse proxy_login) all told_now in
      let most = honest_top image x.venue.messages x.client.heard (reached_whole unit small limits (with_rounds 0 all) (sayable_rounds 0 all said_all)).honest in
      let same : length x.venue.messages ≡ n = ap (λ (V : List Raw). length V) (messages_after unit limits all 0 ∙ messages_stay unit limits (verbs.Deliver A (length before.sent) ∷ verbs.Beat ∷ verbs.Flush ∷ []) done (tt, (tt, (tt, tt)))) in
      let top : unwrap_or (top_of x.client.heard) 0 ≡ here.0 = ap (λ q. unwrap_or q 0) here.1.0 in
      let least = here.1.1 in
      here.1.0 ∙ ap Some (omega (arith, top, most, same, least))
