-- Counts of lines and units, each in its place.
use Rattle.std.proofs.Common.{◌≡◌, ◌≢◌, ℕ, ◌+◌, ◌<◌, Bool, true, false, ◌&&◌, cond, eqb, true≢false, List, [], ◌∷◌, length, refl, sym, ap, ◌∙◌, arith, Some, slice_get, Option, inl, inr}
use Rattle.std.proofs.Math.ListN.{set, replicate, get_or, length-set, length-replicate}
use Rattle.std.proofs.lemmas.Bool.{cases_Bool, eqb-true, eq-eqb}
use Rattle.std.proofs.lemmas.List.{get_or-replicate, get_or-set_same, get_or-set_other}
use Rattle.std.proofs.lemmas.Option.{slice_get-get_or, get_or_from_slice_get}
use Rattle.pitch_io.specs.declared.line.Line.{Line}
use Rattle.pitch_io.specs.declared.line.Line.TheVariants.{A, B, Gap}
use Rattle.line_arbiter.specs.Noted.{Note, same_line, is_of, capped, total, line_count, line_place}
use Rattle.line_arbiter.specs.declared.count.LineCount.{LineCount}

-- the counts stand for the notes
abbrev pub Counts : List LineCount → List Note → Type 0
Counts counts notes = (line : Line) (unit : ℕ) → unit < 256 → slice_get counts (line_place line + unit) ≡ Some (line_count line unit notes)

place_fits : (line : Line) (unit : ℕ) → unit < 256 → line_place line + unit < 768
place_fits A unit small = omega arith
place_fits B unit small = omega arith
place_fits Gap unit small = omega arith

abbrev no_count : LineCount
no_count = record { messages = 0; fresh = 0 }

pub none_counted : Counts (replicate 768 no_count) []
none_counted line unit small =
    let place : ℕ = line_place line + unit in
    let fits : place < 768 = place_fits line unit small in
    let within : place < length (replicate 768 no_count) = omega (arith, fits, length-replicate 768 no_count) in
    slice_get-get_or (replicate 768 no_count) place no_count within ∙ ap Some (get_or-replicate 768 place no_count no_count fits)

-- ---- One note more
together : (line l : Line) (unit u : ℕ) → (same_line line l && eqb unit u) ≡ true → (line ≡ l) × (unit ≡ u)
together A A unit u h = (refl, eqb-true unit u h)
together B B unit u h = (refl, eqb-true unit u h)
together Gap Gap unit u h = (refl, eqb-true unit u h)
together A B unit u h = absurd (true≢false (sym h))
together A Gap unit u h = absurd (true≢false (sym h))
together B A unit u h = absurd (true≢false (sym h))
together B Gap unit u h = absurd (true≢false (sym h))
together Gap A unit u h = absurd (true≢false (sym h))
together Gap B unit u h = absurd (true≢false (sym h))

differ : (unit u n : ℕ) → eqb unit u ≡ false → n + unit ≡ n + u → ⊥
differ unit u n h e = let same : unit ≡ u = omega arith in true≢false (sym (eq-eqb unit u same) ∙ h)

apart : (line l : Line) (unit u : ℕ) → unit < 256 → u < 256 → (same_line line l && eqb unit u) ≡ false → line_place line + unit ≡ line_place l + u → ⊥
apart A A unit u small less h e = differ unit u 0 h e
apart B B unit u small less h e = differ unit u 256 h e
apart Gap Gap unit u small less h e = differ unit u 512 h e
apart A B unit u small less h e = omega arith
apart A Gap unit u small less h e = omega arith
apart B A unit u small less h e = omega arith
apart B Gap unit u small less h e = omega arith
apart Gap A unit u small less h e = omega arith
apart Gap B unit u small less h e = omega arith

counted_on : (sum more : ℕ) → capped (capped sum + more) ≡ capped (more + sum)
counted_on sum more = omega arith

pub made : ℕ → ℕ → LineCount
made messages fresh = record { messages = messages; fresh = fresh }

more_there : (line : Line) (unit : ℕ) (note : Note) (notes : List Note) → is_of line unit note ≡ true
    → made (capped ((line_count line unit notes).messages + note.messages)) (capped ((line_count line unit notes).fresh + note.fresh)) ≡ line_count line unit (note ∷ notes)
unfolding made
more_there line unit note notes is =
    let all : ℕ = total (λ (n : Note). cond (is_of line unit n) n.messages 0) notes in
    let fresh : ℕ = total (λ (n : Note). cond (is_of line unit n) n.fresh 0) notes in
    ap (λ (m : ℕ). made m (capped (capped fresh + note.fresh))) (counted_on all note.messages ∙ ap (λ (b : Bool). capped (cond b note.messages 0 + all)) (sym is))
    ∙ ap (λ (f : ℕ). made (capped (cond (is_of line unit note) note.messages 0 + all)) f) (counted_on fresh note.fresh ∙ ap (λ (b : Bool). capped (cond b note.fresh 0 + fresh)) (sym is))

same_there : (line : Line) (unit : ℕ) (note : Note) (notes : List Note) → is_of line unit note ≡ false → line_count line unit notes ≡ line_count line unit (note ∷ notes)
unfolding made
same_there line unit note notes is =
    let all : ℕ = total (λ (n : Note). cond (is_of line unit n) n.messages 0) notes in
    let fresh : ℕ = total (λ (n : Note). cond (is_of line unit n) n.fresh 0) notes in
    let some : all ≡ 0 + all = omega arith in
    let few : fresh ≡ 0 + fresh = omega arith in
    ap (λ (n : ℕ). made (capped n) (capped fresh)) some ∙ ap (λ (n : ℕ). made (capped (0 + all)) (capped n)) few
    ∙ ap (λ (b : Bool). made (capped (cond b note.messages 0 + all)) (capped (cond b note.fresh 0 + fresh))) (sym is)

pub counts_more : (counts : List LineCount) (notes : List Note) (note : Note) (place : ℕ) (was new : LineCount) → length counts ≡ 768 → note.unit < 256 → place ≡ line_place note.line + note.unit
    → slice_get counts place ≡ Some was → new ≡ record { messages = capped (was.messages + note.messages); fresh = capped (was.fresh + note.fresh) }
    → Counts counts notes → Counts (set counts place new) (note ∷ notes)
unfolding made
counts_more counts notes note place was new many less at stood is counts_are line unit small =
    let here : ℕ = line_place line + unit in
    let fits : here < 768 = place_fits line unit small in
    let within : here < length counts = omega (arith, fits, many) in
    let longer : here < length (set counts place new) = omega (arith, within, length-set counts place new) in
    let total : LineCount = line_count line unit notes in
    let now : slice_get counts here ≡ Some total = counts_are line unit small in
    elim (cases_Bool (is_of line unit note)) [
      | inl here_it ↦
          let same = together line note.line unit note.unit here_it in
          let place_is : here ≡ place = ap (λ (l : Line). line_place l + unit) same.0 ∙ ap (λ (u : ℕ). line_place note.line + u) same.1 ∙ sym at in
          let same_count : was ≡ total = some_one was total (sym stood ∙ sym (ap (slice_get counts) place_is) ∙ now) in
          slice_get-get_or (set counts place new) here new longer
          ∙ ap Some (ap (λ (p : ℕ). get_or (set counts place new) p new) place_is ∙ get_or-set_same counts place new new (omega (arith, within, place_is))
          ∙ is ∙ ap (λ (w : LineCount). made (capped (w.messages + note.messages)) (capped (w.fresh + note.fresh))) same_count ∙ more_there line unit note notes here_it)
      | inr other ↦
          let differs : here ≢ place = λ e. apart line note.line unit note.unit small less other (e ∙ at) in
          slice_get-get_or (set counts place new) here total longer
          ∙ ap Some (get_or-set_other counts place here new total differs ∙ get_or_from_slice_get counts here total total now ∙ same_there line unit note notes other)
    ]
  where
    some_one : (a b : LineCount) → ◌≡◌ {A = Option LineCount} (Some a) (Some b) → a ≡ b
    some_one a b e = cc

-- the same, where the counts are read at their place
pub counts_read : (counts : List LineCount) (notes : List Note) (note : Note) (place messages fresh : ℕ) (d e : LineCount) → length counts ≡ 768 → note.unit < 256 → place < length counts → place ≡ line_place note.line + note.unit
    → messages ≡ capped ((get_or counts place d).messages + note.messages) → fresh ≡ capped ((get_or counts place e).fresh + note.fresh)
    → Counts counts notes → Counts (set counts place (record { messages = messages; fresh = fresh })) (note ∷ notes)
unfolding made
counts_read counts notes note place messages fresh d e many less within at m f stands =
    let there = slice_get-get_or counts place d within in
    let same : get_or counts place e ≡ get_or counts place d = get_or_from_slice_get counts place (get_or counts place d) e there in
    counts_more counts notes note place (get_or counts place d) (made messages fresh) many less at there
    (ap (λ (n : ℕ). made n fresh) m ∙ ap (λ (n : ℕ). made (capped ((get_or counts place d).messages + note.messages)) n) (f ∙ ap (λ (c : LineCount). capped (c.fresh + note.fresh)) same)) stands
