-- A file and more of its bytes.
use Rattle.std.proofs.Common.{◌≡◌, ℕ, ◌≤◌, Bool, true, false, cond, nat_lt, List, [], ◌∷◌, ◌++◌, length, drop, refl, sym, ap, ◌∙◌, subst, arith, Option, Some, None, Ok, Err, Result, length-append, inl, inr}
use Rattle.std.proofs.lemmas.Bool.{cases_Bool, ltb-false, le-ltb, cond-false, cond-true}
use Rattle.std.proofs.lemmas.List.{append-nil, length-drop, drop-append-le, take-append-le}
use Rattle.unit_packets.proofs.Cuts.{cases_Result}
use Rattle.byteorder.specs.Endian.{little_number, big_number}
use Rattle.unit_packets.specs.Causes.{counted}
use Rattle.pcap_feed.specs.Stream.{items_within, left_over}
use Rattle.pcap_feed.specs.Capture.{Packet, order_named, is_magic, judge_named, judge_head, judge_record, front_of, ordered, begin_of, packets_on, left_on, order_told_on, packets_from, left_from, order_told_from, packets_of, left_of, order_told, capture_place, is_cut_off, error_in, left_error, capture_fault_from, capture_fault}
use Rattle.pcap_feed.specs.declared.fault.ByteOrder.{ByteOrder}
use Rattle.pcap_feed.specs.declared.fault.ByteOrder.TheVariants.{Little, Big}
use Rattle.pcap_feed.specs.declared.fault.CaptureError.{CaptureError}
use Rattle.pcap_feed.specs.declared.fault.CaptureError.TheVariants.{Truncated, BadMagic}
use Rattle.pcap_feed.specs.declared.fault.CaptureFault.{CaptureFault}
use Rattle.pcap_feed.proofs.Streams.{appends, none_of}
use Rattle.pcap_feed.proofs.Fronts.{IsFinal, number_more, judge_more, front_err, records_are_fronts}

-- ---- The header
head_is : (bytes : List ℕ) → judge_head bytes ≡ cond (nat_lt (length bytes) 24) (Err (Truncated (length bytes) 24)) (judge_named bytes (order_named bytes))
unfolding judge_head
head_is bytes = refl

named_more : (bytes more : List ℕ) → 24 ≤ length bytes → order_named (bytes ++ more) ≡ order_named bytes
named_more bytes more le =
    let l : little_number 4 (bytes ++ more) ≡ little_number 4 bytes = number_more Little 4 0 bytes more (omega (arith, le)) in
    let b : big_number 4 (bytes ++ more) ≡ big_number 4 bytes = number_more Big 4 0 bytes more (omega (arith, le)) in
    ap (λ (n : ℕ). cond (is_magic n) (Some Little) (cond (is_magic (big_number 4 (bytes ++ more))) (Some Big) None)) l
    ∙ ap (λ (n : ℕ). cond (is_magic (little_number 4 bytes)) (Some Little) (cond (is_magic n) (Some Big) None)) b

judge_named_more : (bytes more : List ℕ) (named : Option ByteOrder) → 24 ≤ length bytes → judge_named (bytes ++ more) named ≡ judge_named bytes named
judge_named_more bytes more None le = ap (λ (m : List ℕ). Err (BadMagic m)) (take-append-le 4 bytes more (omega (arith, le)))
judge_named_more bytes more (Some order) le =
    let v = number_more order 2 4 bytes more (omega (arith, le)) in
    let l = number_more order 4 20 bytes more (omega (arith, le)) in
    rw (v, l) refl

-- a header that is whole is judged for good
pub head_long : (bytes more : List ℕ) → 24 ≤ length bytes → judge_head (bytes ++ more) ≡ judge_head bytes
head_long bytes more le =
    head_is (bytes ++ more) ∙ cond-false (nat_lt (length (bytes ++ more)) 24) _ _ (le-ltb (length (bytes ++ more)) 24 (omega (arith, le, length-append bytes more)))
    ∙ ap (judge_named (bytes ++ more)) (named_more bytes more le) ∙ judge_named_more bytes more (order_named bytes) le
    ∙ sym (head_is bytes ∙ cond-false (nat_lt (length bytes) 24) _ _ (le-ltb (length bytes) 24 le))

pub head_final : (bytes : List ℕ) → IsFinal (judge_head bytes) → 24 ≤ length bytes
head_final bytes final = elim (cases_Bool (nat_lt (length bytes) 24)) [
  | inl short ↦
      let e : judge_head bytes ≡ Err (Truncated (length bytes) 24) = head_is bytes ∙ cond-true (nat_lt (length bytes) 24) _ _ short in
      let f : true ≡ false = subst (λ r. IsFinal r) e final in
      cc
  | inr long ↦ ltb-false (length bytes) 24 long
]

pub head_more : (bytes more : List ℕ) → IsFinal (judge_head bytes) → judge_head (bytes ++ more) ≡ judge_head bytes
head_more bytes more final = head_long bytes more (head_final bytes final)

-- ---- What is computed, by the header
pub record Read (told : Option ByteOrder) (bytes : List ℕ) (order : ByteOrder) : Type 0 where
  pub packets : packets_from told bytes ≡ items_within (front_of order) (drop (begin_of told) bytes)
  pub left : left_from told bytes ≡ left_over (front_of order) (drop (begin_of told) bytes)
  pub told_is : order_told_from told bytes ≡ Some order

pub read_of : (told : Option ByteOrder) (bytes : List ℕ) (order : ByteOrder) → ordered told bytes ≡ Ok order → Read told bytes order
unfolding packets_from left_from order_told_from
read_of told bytes order is = record {
  packets = ap (packets_on (drop (begin_of told) bytes)) is;
  left = ap (left_on bytes (drop (begin_of told) bytes)) is;
  told_is = ap order_told_on is;
}

pub record Unread (bytes : List ℕ) : Type 0 where
  pub packets : packets_of bytes ≡ []
  pub left : left_of bytes ≡ bytes
  pub told_is : order_told bytes ≡ None

pub unread_of : (bytes : List ℕ) (e : CaptureError) → judge_head bytes ≡ Err e → Unread bytes
unfolding packets_from left_from order_told_from
unread_of bytes e is = record {
  packets = ap (packets_on (drop 24 bytes)) is;
  left = ap (left_on bytes (drop 24 bytes)) is;
  told_is = ap order_told_on is;
}

-- ---- More bytes
pub record Grows (fed more : List ℕ) : Type 0 where
  pub packets : packets_of (fed ++ more) ≡ packets_of fed ++ packets_from (order_told fed) (left_of fed ++ more)
  pub left : left_of (fed ++ more) ≡ left_from (order_told fed) (left_of fed ++ more)
  pub told : order_told (fed ++ more) ≡ order_told_from (order_told fed) (left_of fed ++ more)
  pub short : length (left_of fed) ≤ length fed

grows_none : (fed more : List ℕ) (e : CaptureError) → judge_head fed ≡ Err e → Grows fed more
grows_none fed more e is =
    let u = unread_of fed e is in
    record {
      packets = ap (λ (b : List ℕ). packets_from None (b ++ more)) (sym u.left) ∙ ap (λ (t : Option ByteOrder). packets_from t (left_of fed ++ more)) (sym u.told_is)
          ∙ ap (λ (ps : List Packet). ps ++ packets_from (order_told fed) (left_of fed ++ more)) (sym u.packets);
      left = ap (λ (b : List ℕ). left_from None (b ++ more)) (sym u.left) ∙ ap (λ (t : Option ByteOrder). left_from t (left_of fed ++ more)) (sym u.told_is);
      told = ap (λ (b : List ℕ). order_told_from None (b ++ more)) (sym u.left) ∙ ap (λ (t : Option ByteOrder). order_told_from t (left_of fed ++ more)) (sym u.told_is);
      short = omega (arith, ap length u.left);
    }

grows_some : (fed more : List ℕ) (order : ByteOrder) → judge_head fed ≡ Ok order → Grows fed more
grows_some fed more order is =
    let final : IsFinal (judge_head fed) = subst (λ r. IsFinal r) (sym is) tt in
    let le = head_final fed final in
    let r = read_of None fed order is in
    let later = read_of None (fed ++ more) order (head_more fed more final ∙ is) in
    let on = read_of (Some order) (left_of fed ++ more) order refl in
    let a = appends is_cut_off (front_of order) (records_are_fronts order) (drop 24 fed) more in
    let cut : drop 24 (fed ++ more) ≡ drop 24 fed ++ more = drop-append-le 24 fed more le in
    let same : packets_from (order_told fed) (left_of fed ++ more) ≡ items_within (front_of order) (left_over (front_of order) (drop 24 fed) ++ more) =
    ap (λ (t : Option ByteOrder). packets_from t (left_of fed ++ more)) r.told_is ∙ on.packets ∙ ap (λ (b : List ℕ). items_within (front_of order) (b ++ more)) r.left in
    let same_left : left_from (order_told fed) (left_of fed ++ more) ≡ left_over (front_of order) (left_over (front_of order) (drop 24 fed) ++ more) =
    ap (λ (t : Option ByteOrder). left_from t (left_of fed ++ more)) r.told_is ∙ on.left ∙ ap (λ (b : List ℕ). left_over (front_of order) (b ++ more)) r.left in
    record {
      packets = later.packets ∙ ap (items_within (front_of order)) cut ∙ a.items
          ∙ ap (λ (ps : List Packet). ps ++ items_within (front_of order) (left_over (front_of order) (drop 24 fed) ++ more)) (sym r.packets)
          ∙ ap (λ (ps : List Packet). packets_of fed ++ ps) (sym same);
      left = later.left ∙ ap (left_over (front_of order)) cut ∙ a.rest ∙ sym same_left;
      told = later.told_is ∙ sym on.told_is ∙ ap (λ (t : Option ByteOrder). order_told_from t (left_of fed ++ more)) (sym r.told_is);
      short = omega (arith, ap length r.left, a.short, length-drop 24 fed);
    }

pub grows : (fed more : List ℕ) → Grows fed more
grows fed more = elim (cases_Result (judge_head fed)) [
  | inl told ↦ grows_some fed more told.0 told.1
  | inr none ↦ grows_none fed more none.0 none.1
]

-- ---- Faults
-- an error that more bytes do not mend
lasting_of : (place : ℕ) (o : Option CaptureError) (fault : CaptureFault) → capture_fault_from false place o ≡ Some fault → (e : CaptureError) × ((o ≡ Some e) × ((is_cut_off e ≡ false) × (fault ≡ record { place = place; error = e })))
lasting_of place None fault is = cc
lasting_of place (Some e) fault is = elim (cases_Bool (is_cut_off e)) [
  | inl cut ↦ let none : None ≡ Some fault = sym (ap (λ (b : Bool). cond b None (Some (record { place = place; error = e }))) cut) ∙ is in cc
  | inr lasts ↦
      let same : Some (record { place = place; error = e }) ≡ Some fault = sym (ap (λ (b : Bool). cond b None (Some (record { place = place; error = e }))) lasts) ∙ is in
      (e, (refl, (lasts, cc)))
]

pub lasting_from : (ended : Bool) (place : ℕ) (e : CaptureError) → is_cut_off e ≡ false → capture_fault_from ended place (Some e) ≡ Some (record { place = place; error = e })
lasting_from ended place e lasts = ap (λ (b : Bool). cond b (cond ended (Some (record { place = place; error = e })) None) (Some (record { place = place; error = e }))) lasts

-- a fault of the bytes so far is one at the end too
pub fault_ended : (place : ℕ) (o : Option CaptureError) (fault : CaptureFault) → capture_fault_from false place o ≡ Some fault → capture_fault_from true place o ≡ Some fault
fault_ended place o fault is =
    let l = lasting_of place o fault is in
    ap (capture_fault_from true place) l.1.0 ∙ lasting_from true place l.0 l.1.1.0 ∙ ap (λ (f : CaptureFault). Some f) (sym l.1.1.1)

error_in_is : {A : Type 0} (r : Result A CaptureError) (e : CaptureError) → error_in r ≡ Some e → r ≡ Err e
error_in_is (Ok found) e is = cc
error_in_is (Err d) e is = let same : d ≡ e = cc in ap (λ (x : CaptureError). Err x) same

record Stays (fed more : List ℕ) (e : CaptureError) : Type 0 where
  packets : packets_of (fed ++ more) ≡ packets_of fed
  error : left_error (order_told (fed ++ more)) (left_of (fed ++ more)) ≡ Some e
  place : capture_place (fed ++ more) ≡ capture_place fed

stays_head : (fed more : List ℕ) (e : CaptureError) → judge_head fed ≡ Err e → is_cut_off e ≡ false → Stays fed more e
stays_head fed more e is lasts =
    let later : judge_head (fed ++ more) ≡ Err e = head_more fed more (subst (λ r. IsFinal r) (sym is) lasts) ∙ is in
    let u = unread_of fed e is in
    let v = unread_of (fed ++ more) e later in
    record {
      packets = v.packets ∙ sym u.packets;
      error = ap (λ (t : Option ByteOrder). left_error t (left_of (fed ++ more))) v.told_is ∙ ap (λ (b : List ℕ). left_error None b) v.left ∙ ap error_in later;
      place = omega (arith, ap length u.left, ap length v.left);
    }

error_at : (order : ByteOrder) (rest : List ℕ) (e : CaptureError) → left_error (Some order) rest ≡ Some e → judge_record order rest ≡ Err e
error_at order [] e is = cc
error_at order (byte ∷ rest) e is = error_in_is (judge_record order (byte ∷ rest)) e is

pub judge_nothing : (order : ByteOrder) → judge_record order [] ≡ Err (Truncated 0 16)
unfolding judge_record
judge_nothing order = refl

pub error_lasts : (order : ByteOrder) (rest : List ℕ) (e : CaptureError) → judge_record order rest ≡ Err e → is_cut_off e ≡ false → left_error (Some order) rest ≡ Some e
error_lasts order [] e is lasts =
    let same : ◌≡◌ {A = Result ℕ CaptureError} (Err (Truncated 0 16)) (Err e) = sym (judge_nothing order) ∙ is in
    let t : Truncated 0 16 ≡ e = cc in
    let f : true ≡ false = ap is_cut_off t ∙ lasts in
    cc
error_lasts order (byte ∷ rest) e is lasts = ap error_in is

stays_record : (fed more : List ℕ) (order : ByteOrder) (e : CaptureError) → judge_head fed ≡ Ok order → judge_record order (left_of fed) ≡ Err e → is_cut_off e ≡ false → Stays fed more e
stays_record fed more order e head is lasts =
    let g = grows fed more in
    let r = read_of None fed order head in
    let on = read_of (Some order) (left_of fed ++ more) order refl in
    let later : judge_record order (left_of fed ++ more) ≡ Err e = judge_more order (left_of fed) more (subst (λ r. IsFinal r) (sym is) lasts) ∙ is in
    let none = none_of (front_of order) (left_of fed ++ more) e (front_err order (left_of fed ++ more) e later) in
    let left : left_of (fed ++ more) ≡ left_of fed ++ more = g.left ∙ ap (λ (t : Option ByteOrder). left_from t (left_of fed ++ more)) r.told_is ∙ on.left ∙ none.rest in
    let told : order_told (fed ++ more) ≡ Some order = g.told ∙ ap (λ (t : Option ByteOrder). order_told_from t (left_of fed ++ more)) r.told_is ∙ on.told_is in
    record {
      packets = g.packets ∙ ap (λ (ps : List Packet). packets_of fed ++ ps) (ap (λ (t : Option ByteOrder). packets_from t (left_of fed ++ more)) r.told_is ∙ on.packets ∙ none.items) ∙ append-nil (packets_of fed);
      error = ap (λ (t : Option ByteOrder). left_error t (left_of (fed ++ more))) told ∙ ap (left_error (Some order)) left ∙ error_lasts order (left_of fed ++ more) e later lasts;
      place = omega (arith, ap length left, length-append (left_of fed) more, length-append fed more, g.short);
    }

stays_of : (fed more : List ℕ) (e : CaptureError) → left_error (order_told fed) (left_of fed) ≡ Some e → is_cut_off e ≡ false → Stays fed more e
stays_of fed more e is lasts = elim (cases_Result (judge_head fed)) [
  | inl found ↦
      let r = read_of None fed found.0 found.1 in
      stays_record fed more found.0 e found.1 (error_at found.0 (left_of fed) e (ap (λ (t : Option ByteOrder). left_error t (left_of fed)) (sym r.told_is) ∙ is)) lasts
  | inr none ↦
      let u = unread_of fed none.0 none.1 in
      let here : error_in (judge_head fed) ≡ Some e = ap (λ (b : List ℕ). left_error None b) (sym u.left) ∙ ap (λ (t : Option ByteOrder). left_error t (left_of fed)) (sym u.told_is) ∙ is in
      stays_head fed more e (error_in_is (judge_head fed) e here) lasts
]

-- behind a fault that lasts, more bytes give no more records, and the fault stays
pub record Lasts (fed more : List ℕ) (fault : CaptureFault) : Type 0 where
  pub packets : packets_of (fed ++ more) ≡ packets_of fed
  pub fault_is : capture_fault (fed ++ more) ≡ Some fault

pub fault_lasts : (fed more : List ℕ) (fault : CaptureFault) → capture_fault fed ≡ Some fault → Lasts fed more fault
fault_lasts fed more fault is =
    let l = lasting_of (counted (capture_place fed)) (left_error (order_told fed) (left_of fed)) fault is in
    let s = stays_of fed more l.0 l.1.0 l.1.1.0 in
    record {
      packets = s.packets;
      fault_is = ap (capture_fault_from false (counted (capture_place (fed ++ more)))) s.error ∙ lasting_from false (counted (capture_place (fed ++ more))) l.0 l.1.1.0
          ∙ ap (λ (p : ℕ). Some (record { place = counted p; error = l.0 })) s.place
          ∙ ap (λ (f : CaptureFault). Some f) (sym l.1.1.1);
    }
