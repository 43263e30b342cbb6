-- With what was heard the hold overflowed, or it did not.
use Rattle.std.proofs.Common.{◌≡◌, ℕ, suc, ◌+◌, ◌-◌, Bool, true, false, List, [], ◌∷◌, length, refl, sym, ap, ◌∙◌, subst, arith, Option, Some, None, is_some, eqb, ltb, cond, ◌||◌}
use Rattle.std.proofs.lemmas.Bool.{lt-ltb}
use Rattle.pitch_io.specs.declared.line.Line.{Line}
use Rattle.pitch_model.specs.History.{Entry, GrpDown, Message, Next, Raw, SpinDown}
use Rattle.pitch_model.specs.History as entry
use Rattle.pitch_model.specs.Asking.{ask_of}
use Rattle.pitch_model.specs.Reach.{is_overflow}
use Rattle.pitch_model.specs.declared.ask.Ask.{Ask}
use Rattle.pitch_model.specs.declared.ask.Ask.TheVariants as asks
use Rattle.pitch_text.specs.declared.verb.Session.{Session}
use Rattle.pitch_text.specs.declared.verb.Session.TheVariants.{Grp, Spin}
use Rattle.unit_packets.specs.Blocks.{Block}
use Rattle.heard_items.specs.Heard.{block_overflows, heard, heard_block, heard_messages}
use Rattle.heard_items.specs.Heard.{heard_sequenced, overflowed_messages, heard_all}
use Rattle.heard_items.specs.declared.item.Item.{Item}
use Rattle.heard_items.specs.declared.item.Item.TheVariants as item
use Rattle.session_ends.specs.Closing.{Setup, closed_of}
use Rattle.session_ends.specs.Events.{Event}
use Rattle.client_links.specs.Linking.{Lookups, link_tells}
use Rattle.client_end.specs.Came.{EndSetup, EndState, Second, ask_sent, both_links_tick, end_step, grp_link_ticks}
use Rattle.client_end.specs.Links.{gap_link, spin_link}
use Rattle.client_end.specs.Sessions.{SessionState, fed_at, happened, heard_cut, settled_at}
use Rattle.client_end.specs.layers.Hearing.{IsTold}
use Rattle.client_end.proofs.HeardItems.{AreTold}
use Rattle.client_end.proofs.LinkItems.{link_told}
use Rattle.sending_end.specs.Waiting.{ended, made, took}
use Rattle.world_model.specs.Ends.{at_client}
use Rattle.world_model.specs.Printed.{overflowed}
use Rattle.world_model.specs.State.{State}
use Rattle.world_model.specs.Verbs.{hears, hears_block}
use Rattle.world_model.specs.declared.limits.Limits.{Limits}
use Rattle.world_model.specs.layers.Hearing.{overflow_in}
use Rattle.world_model.specs.layers.Steps.{Marks}
use Rattle.world_model.proofs.HeardBlocks.{overflow_step}

pub marked : (H : ℕ) (E F : List Entry) (over : Bool) → Marks H E F over → over ≡ overflowed H (length F - length E) F
marked H E F over m =
    let e : m.added + 0 ≡ length F - length E = omega (arith, m.longer) in
    or_false over ∙ sym (m.marks 0) ∙ ap (λ (n : ℕ). overflowed H n F) e
  where
    or_false : (x : Bool) → x ≡ (x || false)
    or_false true = refl
    or_false false = refl

module _ (H : ℕ) where
  pub marks_none : (E : List Entry) → Marks H E E false
  marks_none E = record { added = 0; longer = omega arith; marks = λ m. let e : 0 + m ≡ m = omega arith in ap (λ (n : ℕ). overflowed H n E) e }

  marks_one : (new : Entry) (E : List Entry) → is_overflow H E new ≡ false → Marks H E (new ∷ E) false
  marks_one new E none = record {
    added = 1;
    longer = omega arith;
    marks = λ m. let e : 1 + m ≡ suc m = omega arith in ap (λ (n : ℕ). overflowed H n (new ∷ E)) e ∙ ap (λ (b : Bool). b || overflowed H m E) none;
  }

  pub marks_then : (E F G : List Entry) → Marks H E F false → Marks H F G false → Marks H E G false
  marks_then E F G x y = record {
    added = y.added + x.added;
    longer = omega (arith, x.longer, y.longer);
    marks = λ m.
        let e : (y.added + x.added) + m ≡ y.added + (x.added + m) = omega arith in
        ap (λ (n : ℕ). overflowed H n G) e ∙ y.marks (x.added + m) ∙ x.marks m;
  }

  -- ---- Blocks
  marks_bits : (b : Bool) (r : ℕ) (x : Bool) → (ltb 0 r || (b || x)) ≡ (ltb 0 (cond b 1 0 + r) || x)
  marks_bits true r x = or_true (ltb 0 r) x ∙ ap (λ (y : Bool). y || x) (sym (lt-ltb 0 (1 + r) (omega arith)))
    where
      or_true : (a x : Bool) → (a || true) ≡ (true || x)
      or_true true x = refl
      or_true false x = refl
  marks_bits false r x = let e : r ≡ 0 + r = omega arith in ap (λ (n : ℕ). ltb 0 n || x) e

  marks_messages : (first : ℕ) (raws : List Raw) (E : List Entry) → Marks H E (heard_messages first raws E) (ltb 0 (overflowed_messages H first raws E))
  marks_messages first [] E = marks_none E
  marks_messages first (raw ∷ raws) E =
      let rest = marks_messages (first + 1) raws (Message first raw ∷ E) in
      record {
        added = suc rest.added;
        longer = omega (arith, rest.longer);
        marks = λ m.
            let e : suc rest.added + m ≡ rest.added + suc m = omega arith in
            ap (λ (n : ℕ). overflowed H n (heard_messages (first + 1) raws (Message first raw ∷ E))) e ∙ rest.marks (suc m)
            ∙ marks_bits (is_overflow H E (Message first raw)) (overflowed_messages H (first + 1) raws (Message first raw ∷ E)) (overflowed H m E);
      }

  marks_sequenced : (sequence : ℕ) (raws : List Raw) (E : List Entry) → Marks H E (heard_sequenced sequence raws E) (ltb 0 (overflowed_messages H sequence raws E))
  marks_sequenced sequence [] E = record { added = 1; longer = omega arith; marks = λ m. let e : 1 + m ≡ suc m = omega arith in ap (λ (n : ℕ). overflowed H n (Next sequence ∷ E)) e }
  marks_sequenced sequence (raw ∷ raws) E = marks_messages sequence (raw ∷ raws) E

  marks_block : (block : Block) (E : List Entry) → Marks H E (heard_block block E) (ltb 0 (block_overflows H E block))
  marks_block block E = by (eqb block.sequence 0)
    where
      by : (b : Bool) → Marks H E (cond b E (heard_sequenced block.sequence block.raws E)) (ltb 0 (cond b 0 (overflowed_messages H block.sequence block.raws E)))
      by true = marks_none E
      by false = marks_sequenced block.sequence block.raws E

  -- ---- What a link tells
  marks_item : (x : Item) (E : List Entry) → IsTold x → Marks H E (heard x E) false
  marks_item (item.Messages first raws) E is = absurd is
  marks_item (item.Next next) E is = absurd is
  marks_item item.Nothing E is = marks_none E
  marks_item item.GrpUp E is = marks_one _ E refl
  marks_item item.GrpDown E is = marks_one _ E refl
  marks_item (item.GapReply sequence count status) E is = marks_one _ E refl
  marks_item item.SpinUp E is = marks_one _ E refl
  marks_item item.SpinDown E is = marks_one _ E refl
  marks_item (item.Advertised sequence) E is = marks_one _ E refl
  marks_item (item.SpinReply sequence orders status) E is = marks_one _ E refl
  marks_item (item.ImageMessages raws) E is = marks_one _ E refl
  marks_item (item.SpinFinished sequence) E is = marks_one _ E refl

  marks_items : (items : List Item) (E : List Entry) → AreTold items → Marks H E (heard_all items E) false
  marks_items [] E all = marks_none E
  marks_items (x ∷ items) E all = marks_then E (heard x E) (heard_all items (heard x E)) (marks_item x E all.0) (marks_items items (heard x E) all.1)

  -- ---- One of the two sessions, whose end the client hears so
  module _ (setup : Setup) (down : Entry) (quiet : (E : List Entry) → is_overflow H E down ≡ false) where
    marks_cut : (E : List Entry) (link : Option (List (Event Lookups))) → Marks H E (heard_cut down E link) false
    marks_cut E None = marks_none E
    marks_cut E (Some events) = marks_one down E (quiet E)

    marks_settled : (E : List Entry) (link : Option (List (Event Lookups))) → Marks H E (settled_at setup down E link).heard false
    marks_settled E None = marks_none E
    marks_settled E (Some events) = by (is_some (closed_of setup events))
      where
        by : (b : Bool) → Marks H E (cond {A = SessionState} b (record { heard = down ∷ E; link = None }) (record { heard = E; link = Some events })).heard false
        by true = marks_one down E (quiet E)
        by false = marks_none E

    marks_took : (bytes : List ℕ) (E : List Entry) (link : Option (List (Event Lookups)))
        → Marks H E (settled_at setup down (fed_at setup bytes E link).heard (fed_at setup bytes E link).link).heard false
    marks_took bytes E None = marks_none E
    marks_took bytes E (Some events) =
        let told : List Item = link_tells setup events bytes in
        marks_then E (heard_all told E) _ (marks_items told E (link_told setup events bytes)) (marks_settled (heard_all told E) (fed_at setup bytes E (Some events)).link)

  -- ---- What comes to an end, but blocks
  module _ (s : EndSetup) (now : EndState) where
    pub marks_made : (session : Session) → Marks H now.heard (end_step s (made (at_client session)) now).heard false
    marks_made Grp = marks_cut gap_link GrpDown (λ E. refl) now.heard now.grp
    marks_made Spin = marks_cut (spin_link s.unit) SpinDown (λ E. refl) now.heard now.spin

    pub marks_ended : (session : Session) → Marks H now.heard (end_step s (ended (at_client session)) now).heard false
    marks_ended Grp = marks_cut gap_link GrpDown (λ E. refl) now.heard now.grp
    marks_ended Spin = marks_cut (spin_link s.unit) SpinDown (λ E. refl) now.heard now.spin

    pub marks_fed : (session : Session) (bytes : List ℕ) → Marks H now.heard (end_step s (took (at_client session) bytes) now).heard false
    marks_fed Grp bytes = marks_took gap_link GrpDown (λ E. refl) bytes now.heard now.grp
    marks_fed Spin bytes = marks_took (spin_link s.unit) SpinDown (λ E. refl) bytes now.heard now.spin

    asked_heard : (ask : Option Ask) (at : EndState) → (ask_sent s ask at).heard ≡ at.heard
    asked_heard None at = refl
    asked_heard (Some (asks.Gap first count)) at = refl
    asked_heard (Some (asks.Spin sequence)) at = refl

    pub marks_second : Marks H now.heard (end_step s Second now).heard false
    marks_second =
        let grp : EndState = grp_link_ticks now in
        let both : EndState = both_links_tick s now in
        let ask : Option Ask = ask_of s.hold both.heard in
        let asked : List Entry = entry.Ticked ask ∷ both.heard in
        let ticked = marks_then now.heard grp.heard both.heard (marks_settled gap_link GrpDown (λ E. refl) now.heard (happened _ now.grp)) (marks_settled (spin_link s.unit) SpinDown (λ E. refl) grp.heard (happened _ grp.spin)) in
        subst (λ (E : List Entry). Marks H now.heard E false) (sym (asked_heard ask (record both { heard = asked }))) (marks_then now.heard both.heard asked ticked (marks_one (entry.Ticked ask) both.heard refl))

-- ---- Blocks that a state hears
or_assoc : (a b x : Bool) → (b || (a || x)) ≡ ((a || b) || x)
or_assoc true true x = refl
or_assoc true false x = refl
or_assoc false b x = refl

pub marks_hears : (unit : ℕ) (limits : Limits) (line : Line) (blocks : List Block) (s : State) → Marks limits.hold s.client.heard (hears unit limits line blocks s).client.heard (overflow_in limits.hold blocks s.client.heard)
marks_hears unit limits line [] s = marks_none limits.hold s.client.heard
marks_hears unit limits line (block ∷ blocks) s =
    let H : ℕ = limits.hold in
    let E : List Entry = s.client.heard in
    let F : List Entry = heard_block block E in
    let last : List Entry = (hears unit limits line (block ∷ blocks) s).client.heard in
    let one = marks_block H block E in
    let rest = marks_hears unit limits line blocks (hears_block unit limits line block s) in
    record {
      added = rest.added + one.added;
      longer = omega (arith, one.longer, rest.longer);
      marks = λ m.
          let e : (rest.added + one.added) + m ≡ rest.added + (one.added + m) = omega arith in
          ap (λ (n : ℕ). overflowed H n last) e ∙ rest.marks (one.added + m)
          ∙ ap (λ (y : Bool). overflow_in H blocks F || y) (one.marks m)
          ∙ or_assoc (ltb 0 (block_overflows H E block)) (overflow_in H blocks F) (overflowed H m E)
          ∙ ap (λ (b : Bool). b || overflowed H m E) (sym (overflow_step H block blocks E));
    }
