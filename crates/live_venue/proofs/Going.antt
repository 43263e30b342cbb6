-- A run that goes on by a call, and what that sends.
use Rattle.std.proofs.Common.{◌≡◌, ◌⊎◌, inl, inr, ℕ, zero, suc, List, [], ◌∷◌, length, refl, sym, ap, ◌∙◌, subst, Option, Some, None}
use Rattle.std.proofs.lemmas.List.{append-nil}
use Rattle.unit_commands.specs.Pieces.{read_through}
use Rattle.venue_end.specs.declared.setup.VenueSetup.{VenueSetup}
use Rattle.venue_net.specs.VenueCalls.{VenueCall, AddsVenueCall}
use Rattle.venue_turns.specs.Due.{Ends, IsMade}
use Rattle.venue_turns.specs.Turning.{Passes, TurnsStand}
use Rattle.venue_turns.specs.declared.due.Due.{Due}
use Rattle.venue_turns.specs.declared.turns.VenueTurns.{VenueTurns}
use Rattle.venue_units.specs.Coming.{UnitCame}
use Rattle.venue_units.specs.Units.{UnitsStand}
use Rattle.live_venue.specs.Input.{Heard}
use Rattle.live_venue.specs.Running.{Advertises, Brings, CallsOn, Fits, Now, PassSeconds, RunsOn, SecondPasses, Ticks, beaten, ends_now, flushed, left, let_in, pumped, took, turns_of, ways, with_heard, wrote}
use Rattle.live_venue.specs.Sending.{Sending}
use Rattle.live_venue.specs.Serving.{AreFeeds, SendsAPiece}
use Rattle.live_venue.specs.Standing.{ArePieces, GoesOn, IsAbout, IsIdle, RunIs, SentOn, Serve, Sends, Stands, Steps, all_outgoing, by_fault}
use Rattle.live_venue.specs.declared.fault.InputFault.{InputFault}
use Rattle.live_venue.specs.declared.serving.Serving.{Serving}
use Rattle.live_venue.proofs.Calls.{adds_more}
use Rattle.live_venue.proofs.Ending.{ends_faulty}
use Rattle.live_venue.proofs.Feeds.{feeds_of}
use Rattle.live_venue.proofs.Extending.{Extends, beaten_same, ext_more, ext_none, ext_one, ext_same, ext_trans, flushed_extends, pump_extends, seconds_extend, sends_later}

-- ---- What a call leaves as it was
-- the input, while more came to the units
pub record Reads (now now' : Now) : Type 0 where
  pub text : now'.text ≡ now.text
  pub fault : now'.fault ≡ now.fault
  pub extends : Extends now'.came now.came

-- and what is to be sent
pub record Keeps (now now' : Now) : Type 0 where
  pub reads : Reads now now'
  pub unsent : now'.unsent ≡ now.unsent

pub keeps_by : (now now' : Now) (came : List UnitCame) → now' ≡ record now { came = came } → Extends came now.came → Keeps now now'
keeps_by now now' came e extends = record {
  reads = record { text = ap (λ (n : Now). n.text) e; fault = ap (λ (n : Now). n.fault) e; extends = ext_same _ _ _ (ap (λ (n : Now). n.came) e) extends };
  unsent = ap (λ (n : Now). n.unsent) e;
}

pub left_keeps : (place : ℕ) (now now' : Now) → now' ≡ left place now → Keeps now now'
left_keeps place now now' e = keeps_by now now' _ e (ext_one _ now.came)

pub let_in_keeps : (place : ℕ) (now now' : Now) → (now' ≡ let_in place now) ⊎ (now' ≡ left place now) → Keeps now now'
let_in_keeps place now now' (inl e) = keeps_by now now' _ e (ext_one _ now.came)
let_in_keeps place now now' (inr e) = left_keeps place now now' e

pub wrote_keeps : (s : List VenueSetup) (place count : ℕ) (now now' : Now) → (now' ≡ pumped s place (wrote place count now)) ⊎ (now' ≡ left place (wrote place count now)) → Keeps now now'
wrote_keeps s place count now now' (inl e) = keeps_by now now' _ e (ext_trans _ _ _ (pump_extends place _ (wrote place count now).came) (ext_one _ now.came))
wrote_keeps s place count now now' (inr e) = keeps_by now now' _ e (ext_more _ _ _ (ext_one _ now.came))

pub took_reads : (s : List VenueSetup) (place : ℕ) (bytes : List ℕ) (now now' : Now) → (now' ≡ took s place bytes now) ⊎ (now' ≡ left place now) → Reads now now'
took_reads s place bytes now now' (inl e) = record { text = ap (λ (n : Now). n.text) e; fault = ap (λ (n : Now). n.fault) e; extends = ext_same _ _ _ (ap (λ (n : Now). n.came) e) (ext_one _ now.came) }
took_reads s place bytes now now' (inr e) = (left_keeps place now now' e).reads

pub reads_idle : (now now' : Now) → Keeps now now' → IsIdle now → IsIdle now'
reads_idle now now' keeps idle = record { sent = keeps.unsent ∙ idle.sent; good = keeps.reads.fault ∙ idle.good }

-- ---- A second leaves the input
ticks_text : (A : Type 0) (of : Now → A) (at : ℕ) (now now' : Now) → ((came : List UnitCame) (n : Now) → of (record n { came = came }) ≡ of n) → Ticks at now now' → of now' ≡ of now
ticks_text A of at now now' same (inl e) = ap of e ∙ same _ now
ticks_text A of at now now' same (inr e) = ap of e ∙ same _ now

advertises_text : (A : Type 0) (of : Now → A) (at : ℕ) (now now' : Now) → ((came : List UnitCame) (n : Now) → of (record n { came = came }) ≡ of n) → Advertises at now now' → of now' ≡ of now
advertises_text A of at now now' same (inl e) = ap of e ∙ same _ now
advertises_text A of at now now' same (inr (inl e)) = ap of e ∙ same _ now
advertises_text A of at now now' same (inr (inr e)) = ap of e

seconds_text : (A : Type 0) (of : Now → A) (count : ℕ) (now now' : Now) → ((came : List UnitCame) (n : Now) → of (record n { came = came }) ≡ of n) → PassSeconds count now now' → of now' ≡ of now
seconds_text A of zero now now' same e = ap of e
seconds_text A of (suc at) now now' same (before, (passed, (between, (ticks, advertises)))) =
    advertises_text A of at between now' same advertises ∙ ticks_text A of at before between same ticks ∙ seconds_text A of at now before same passed

pub seconds_unsent : (count : ℕ) (now now' : Now) → PassSeconds count now now' → now'.unsent ≡ now.unsent
seconds_unsent count now now' passed = seconds_text (List Sending) (λ n. n.unsent) count now now' (λ came n. refl) passed

beaten_text : (s : List VenueSetup) (count : ℕ) (now : Now) → (beaten s count now).text ≡ now.text
beaten_text s zero now = refl
beaten_text s (suc at) now = beaten_text s at now

beaten_fault : (s : List VenueSetup) (count : ℕ) (now : Now) → (beaten s count now).fault ≡ now.fault
beaten_fault s zero now = refl
beaten_fault s (suc at) now = beaten_fault s at now

pub second_reads : (s : List VenueSetup) (now now' : Now) → SecondPasses s now now' → Reads now now'
second_reads s now now' (after, (passed, e)) = record {
  text = ap (λ (n : Now). n.text) e ∙ beaten_text s (length s) after ∙ seconds_text (List ℕ) (λ n. n.text) (length s) now after (λ came n. refl) passed;
  fault = ap (λ (n : Now). n.fault) e ∙ beaten_fault s (length s) after ∙ seconds_text (Option InputFault) (λ n. n.fault) (length s) now after (λ came n. refl) passed;
  extends = ext_same _ _ _ (ap (λ (n : Now). n.came) e ∙ beaten_same s (length s) after) (seconds_extend (length s) now after passed);
}

-- ---- What was heard of the input
flushed_text : (s : List VenueSetup) (count : ℕ) (now : Now) → (flushed s count now).text ≡ now.text
flushed_text s zero now = refl
flushed_text s (suc at) now = flushed_text s at now

flushed_fault : (s : List VenueSetup) (count : ℕ) (now : Now) → (flushed s count now).fault ≡ now.fault
flushed_fault s zero now = refl
flushed_fault s (suc at) now = flushed_fault s at now

pub heard_text : (s : List VenueSetup) (heard : Heard) (text : List ℕ) (now : Now) → (with_heard s heard text now).text ≡ text
heard_text s heard text now = flushed_text s (length s) (record now { text = text; came = heard.came; fault = heard.fault })

pub heard_fault : (s : List VenueSetup) (heard : Heard) (text : List ℕ) (now : Now) → (with_heard s heard text now).fault ≡ heard.fault
heard_fault s heard text now = flushed_fault s (length s) (record now { text = text; came = heard.came; fault = heard.fault })

pub heard_extends : (s : List VenueSetup) (heard : Heard) (text : List ℕ) (now : Now) → Extends heard.came now.came → Extends (with_heard s heard text now).came now.came
heard_extends s heard text now extends = ext_trans _ _ _ (flushed_extends s (length s) (record now { text = text; came = heard.came; fault = heard.fault })) extends

-- ---- No call
module _ (s : List VenueSetup) (start calls : Option (List VenueCall)) (v : Serving) where
  -- its turns alone differ
  pub stands_turns : (t : VenueTurns) (run : List VenueCall) (now : Now) → Stands s start calls v run now → Stands s start calls (record v { turns = t }) run now
  stands_turns t run now st = record { is_run = st.is_run; serve = st.serve; read = st.read; idle = st.idle }

  -- what is due is not done yet
  pub goes_still : (what : Due) → IsAbout s start calls v what → GoesOn s start calls v
  goes_still what about = record { run = about.run; now = about.now; stands = about.stands; turns = about.turns }

-- ---- A call more
module _ (s : List VenueSetup) (start calls : Option (List VenueCall)) (v : Serving) (what : Due) (about : IsAbout s start calls v what) (call : VenueCall) (made : IsMade (ends_now s about.now.came) what call) where
  pub calls_on : (now' : Now) → Brings s call about.now now' → Fits call → CallsOn s call about.run about.now now'
  calls_on now' brings fits = record {
    sent = about.stands.idle.sent;
    good = about.stands.idle.good;
    is_due = record { what = what; due_is = about.next.due_is; made = made };
    fits = fits;
    brings = brings;
  }

  module _ (calls' : Option (List VenueCall)) (adds : AddsVenueCall calls calls' call) (now' : Now) (on : RunsOn s call about.run about.now now') (extends : Extends now'.came about.now.came) (sends : SendsAPiece s now'.came call) where
    pub run_is : AreFeeds s now'.came → RunIs s start calls' (call ∷ about.run) now'
    run_is feeds = record {
      adds = adds_more about.run call start calls calls' about.stands.is_run.adds adds;
      runs = (about.now, (about.stands.is_run.runs, on));
      sent = (sends, sends_later s about.now.came now'.came about.run extends about.stands.is_run.sent);
      feeds = feeds;
    }

    module _ (v' : Serving) (same : turns_of (call ∷ about.run) ≡ call ∷ turns_of about.run) (passes : Passes v.turns v'.turns call) where
      turned : (e : Ends) → TurnsStand (ways s) e v'.turns (turns_of (call ∷ about.run))
      turned e = subst (λ (r : List VenueCall). TurnsStand (ways s) e v'.turns r) (sym same) (passes (ways s) (ends_now s about.now.came) e (turns_of about.run) about.turns (about.next.is_at call made))

      -- by which nothing is to be sent
      pub goes_on : v'.reader ≡ read_through now'.text → Serve s v'.units v'.outbox now' → IsIdle now' → GoesOn s start calls' v'
      goes_on read serve idle = record {
        run = call ∷ about.run;
        now = now';
        stands = record { is_run = run_is (feeds_of s v'.units now'.came serve.stand); serve = serve; read = read; idle = idle };
        turns = turned (ends_now s now'.came);
      }

      module _ (calls'' : Option (List VenueCall)) (first : List Sending) (sends_all : Sends calls' calls'' first) (waiting : first ≡ now'.unsent) (pieces : ArePieces s now'.came now'.unsent) where
        sent_on : UnitsStand s v'.units now'.came → SentOn s start calls'' (call ∷ about.run) (record now' { unsent = [] })
        sent_on stand = sends_all s start (call ∷ about.run) now' [] (run_is (feeds_of s v'.units now'.came stand)) (subst (ArePieces s now'.came) (sym waiting) pieces) (sym waiting ∙ sym (append-nil first))

        -- by which all that is to be sent then is sent
        pub goes_sending : v'.reader ≡ read_through now'.text → now'.fault ≡ None → UnitsStand s v'.units now'.came → v'.outbox.batches.items ≡ [] → GoesOn s start calls'' v'
        goes_sending read good stand empty = record {
          run = (sent_on stand).longer;
          now = record now' { unsent = [] };
          stands = record {
            is_run = (sent_on stand).is_run;
            serve = record { stand = stand; queued = record { waiting = ap all_outgoing empty; pieces = tt } };
            read = read;
            idle = record { sent = refl; good = good };
          };
          turns = subst (λ (r : List VenueCall). TurnsStand (ways s) (ends_now s now'.came) v'.turns r) (sym (sent_on stand).same_turns) (turned (ends_now s now'.came));
        }

        -- by the first fault of the input, where it has one, the run ends
        pub steps_heard : (fault : Option InputFault) → fault ≡ now'.fault → (fault ≡ None → v'.reader ≡ read_through now'.text) → UnitsStand s v'.units now'.came → v'.outbox.batches.items ≡ [] → Steps s (by_fault fault) start calls'' v'
        steps_heard None is read stand empty = goes_sending (read refl) (sym is) stand empty
        steps_heard (Some fault) is read stand empty = ends_faulty s start calls'' (sent_on stand).longer (record now' { unsent = [] }) (sent_on stand).is_run v'.units fault (sym is) refl stand

  -- a call that brings nothing
  pub goes_quietly : (calls' : Option (List VenueCall)) → AddsVenueCall calls calls' call → RunsOn s call about.run about.now about.now → SendsAPiece s about.now.came call → turns_of (call ∷ about.run) ≡ call ∷ turns_of about.run → (t : VenueTurns) → Passes v.turns t call
      → GoesOn s start calls' (record v { turns = t })
  goes_quietly calls' adds on sends same t passes = goes_on calls' adds about.now on (ext_none about.now.came) sends (record v { turns = t }) same passes about.stands.read about.stands.serve about.stands.idle

  -- one that brings something to the units, by which nothing is to be sent
  pub goes_keeping : (calls' : Option (List VenueCall)) → AddsVenueCall calls calls' call → (now' : Now) → RunsOn s call about.run about.now now' → SendsAPiece s now'.came call → turns_of (call ∷ about.run) ≡ call ∷ turns_of about.run → (v' : Serving) → Passes v.turns v'.turns call
      → Keeps about.now now' → v'.reader ≡ v.reader → Serve s v'.units v'.outbox now' → GoesOn s start calls' v'
  goes_keeping calls' adds now' on sends same v' passes keeps reader serve = goes_on calls' adds now' on keeps.reads.extends sends v' same passes
      (reader ∙ about.stands.read ∙ ap read_through (sym keeps.reads.text)) serve (reads_idle about.now now' keeps about.stands.idle)
