-- What a link tells of a Spin Server, against what that server has left of an image.
use Rattle.std.proofs.Common.{◌≡◌, ℕ, ◌≤◌, Bool, true, false, cond, not, ◌&&◌, List, [], ◌∷◌, ◌++◌, length, drop, refl, sym, ap, ◌∙◌, subst, append_assoc, Option, None, Some, nat_eq}
use Rattle.std.specs.Prelude.{⊤}
use Rattle.std.proofs.lemmas.List.{append-nil, drop_at}
use Rattle.std.proofs.lemmas.Bool.{eq-eqb}
use Rattle.pitch_model.specs.declared.ask.Ask.{Ask}
use Rattle.pitch_model.specs.declared.ask.Ask.TheVariants as ask
use Rattle.pitch_model.specs.History.{Entry, Raw, Message, Next, GrpUp, GrpDown, GapReply, SpinUp, SpinDown, Advertised, SpinReply, ImageMessages, SpinFinished, Ticked, Spinning, NoSpin, Asked, Running, adds, bad_image, image_finished, spin_of, spin_asked, spin_replied, spin_more, spin_finished, can_promise}
use Rattle.pitch_model.specs.Honest.{Honest, AreImages}
use Rattle.pitch_model.specs.Image.{image}
use Rattle.heard_items.specs.declared.item.Item.{Item}
use Rattle.heard_items.specs.declared.item.Item.TheVariants as item
use Rattle.heard_items.specs.Heard.{heard, is_accepted}
use Rattle.spin_path.specs.Paths.{MayHear}
use Rattle.spin_path.specs.PathLaws.{NoneBad}

-- what a server has left to send of an image: its sequence, and its messages
abbrev pub ImageLeft : Type 0
ImageLeft = Option (ℕ × List Raw)

-- ---- What is left, item by item
abbrev pub rest_more : ℕ → ImageLeft → ImageLeft
rest_more k None = None
rest_more k (Some rest) = Some (rest.0, drop k rest.1)

abbrev pub next : List Raw → Item → ImageLeft → ImageLeft
next V (item.SpinReply n orders status) r = cond (is_accepted status) (Some (n, image V n)) r
next V (item.ImageMessages raws) r = rest_more (length raws.items) r
next V (item.SpinFinished n) r = None
next V other r = r

abbrev pub GoReply : List Raw → ImageLeft → ℕ → ℕ → Bool → Type 0
GoReply V r n orders true = (r ≡ None) × ((adds (image V n) ≡ orders) × (n ≤ length V))
GoReply V r n orders false = ⊤

-- an item that a server may cause there
abbrev pub Go : List Raw → ImageLeft → Item → Type 0
Go V r (item.SpinReply n orders status) = GoReply V r n orders (is_accepted status)
Go V r (item.ImageMessages raws) = (n : ℕ) × ((left : List Raw) × (r ≡ Some (n, raws.items ++ left)))
Go V r (item.SpinFinished n) = r ≡ Some (n, [])
Go V r (item.Advertised n) = n ≤ length V
Go V r item.SpinUp = ⊤
Go V r other = ⊥

-- ---- Several items
abbrev pub rests : List Raw → ImageLeft → List Item → ImageLeft
rests V r [] = r
rests V r (i ∷ is) = rests V (next V i r) is

abbrev pub Goes : List Raw → ImageLeft → List Item → Type 0
Goes V r [] = ⊤
Goes V r (i ∷ is) = Go V r i × Goes V (next V i r) is

pub rests_append : (V : List Raw) (r : ImageLeft) (xs ys : List Item) → rests V r (xs ++ ys) ≡ rests V (rests V r xs) ys
rests_append V r [] ys = refl
rests_append V r (x ∷ xs) ys = rests_append V (next V x r) xs ys

pub goes_first : (V : List Raw) (r : ImageLeft) (xs ys : List Item) → Goes V r (xs ++ ys) → Goes V r xs
goes_first V r [] ys g = _
goes_first V r (x ∷ xs) ys g = (g.0, goes_first V (next V x r) xs ys g.1)

pub goes_last : (V : List Raw) (r : ImageLeft) (xs ys : List Item) → Goes V r (xs ++ ys) → Goes V (rests V r xs) ys
goes_last V r [] ys g = g
goes_last V r (x ∷ xs) ys g = goes_last V (next V x r) xs ys g.1

pub goes_both : (V : List Raw) (r : ImageLeft) (xs ys : List Item) → Goes V r xs → Goes V (rests V r xs) ys → Goes V r (xs ++ ys)
goes_both V r [] ys g h = h
goes_both V r (x ∷ xs) ys g h = (g.0, goes_both V (next V x r) xs ys g.1 h)

-- ---- The client
-- a spin that runs got all of the image but what its server has left
abbrev Fits : List Raw → Spinning → ImageLeft → Type 0
Fits V (Running running orders raws) (Some rest) = (running ≡ rest.0) × ((raws ++ rest.1 ≡ image V running) × ((adds (image V running) ≡ orders) × (running ≤ length V)))
Fits V (Running running orders raws) None = ⊥
Fits V spin rest = ⊤

pub record Sound (V : List Raw) (E : List Entry) (r : ImageLeft) : Type 0 where
  pub honest : Honest image V E
  pub never : NoneBad E
  pub fits : Fits V (spin_of E) r

fits_none : (V : List Raw) (r : ImageLeft) → Fits V NoSpin r
fits_none V r = _

fits_asked : (V : List Raw) (a : Option Ask) (spin : Spinning) (r : ImageLeft) → Fits V spin r → Fits V (spin_asked a spin) r
fits_asked V None spin r f = f
fits_asked V (Some (ask.Spin sequence)) spin r f = _
fits_asked V (Some (ask.Gap first count)) spin r f = f

fits_started : (V : List Raw) (spin : Spinning) (n orders : ℕ) → Fits V spin None → adds (image V n) ≡ orders → n ≤ length V → Fits V (spin_replied spin n orders true) (Some (n, image V n))
fits_started V NoSpin n orders f e le = _
fits_started V (Asked asked) n orders f e le = by (nat_eq asked n) refl (can_promise n orders)
  where
    by : (b : Bool) → nat_eq asked n ≡ b → (p : Bool) → Fits V (cond b (cond (true && p) (Running n orders []) NoSpin) (Asked asked)) (Some (n, image V n))
    by true is true = (refl, (refl, (e, le)))
    by true is false = _
    by false is p = _
fits_started V (Running running promised got) n orders f e le = absurd f

fits_refused : (V : List Raw) (spin : Spinning) (n orders : ℕ) (r : ImageLeft) → Fits V spin r → Fits V (spin_replied spin n orders false) r
fits_refused V NoSpin n orders r f = _
fits_refused V (Asked asked) n orders r f = by (nat_eq asked n)
  where
    by : (b : Bool) → Fits V (cond b NoSpin (Asked asked)) r
    by true = _
    by false = _
fits_refused V (Running running promised got) n orders r f = f

fits_replied : (V : List Raw) (spin : Spinning) (n orders : ℕ) (r : ImageLeft) (b : Bool) → Fits V spin r → GoReply V r n orders b → Fits V (spin_replied spin n orders b) (cond b (Some (n, image V n)) r)
fits_replied V spin n orders r true f g = fits_started V spin n orders (subst (Fits V spin) g.0 f) g.1.0 g.1.1
fits_replied V spin n orders r false f g = fits_refused V spin n orders r f

fits_more : (V : List Raw) (spin : Spinning) (n : ℕ) (more left : List Raw) → Fits V spin (Some (n, more ++ left)) → Fits V (spin_more spin more) (Some (n, drop (length more) (more ++ left)))
fits_more V NoSpin n more left f = _
fits_more V (Asked asked) n more left f = _
fits_more V (Running running orders got) n more left f =
    (f.0, (ap (λ (l : List Raw). (got ++ more) ++ l) (drop_at more left (length more) refl) ∙ append_assoc got more left ∙ f.1.0, f.1.1))

fits_finished : (V : List Raw) (spin : Spinning) (n : ℕ) → Fits V spin (Some (n, [])) → Fits V (spin_finished spin n) None
fits_finished V NoSpin n f = _
fits_finished V (Asked asked) n f = _
fits_finished V (Running running orders got) n f = subst (λ (b : Bool). Fits V (cond b NoSpin (Running running orders got)) None) (sym (eq-eqb running n f.0)) (fits_none V None)

-- an image that is finished is the venue's, and not bad
finished_is : (V : List Raw) (spin : Spinning) (n : ℕ) → Fits V spin (Some (n, [])) → AreImages image V (image_finished spin n)
finished_is V NoSpin n f = tt
finished_is V (Asked asked) n f = tt
finished_is V (Running running orders got) n f = by (nat_eq running n && nat_eq (adds got) orders)
  where
    all : got ≡ image V running
    all = sym (append-nil got) ∙ f.1.0

    by : (b : Bool) → AreImages image V (cond b ((running, got) ∷ []) [])
    by true = (f.1.1.1, all)
    by false = tt

never_is : (V : List Raw) (spin : Spinning) (n : ℕ) → Fits V spin (Some (n, [])) → bad_image spin n ≡ []
never_is V NoSpin n f = refl
never_is V (Asked asked) n f = refl
never_is V (Running running orders got) n f =
    let all : adds got ≡ orders = ap adds (sym (append-nil got) ∙ f.1.0) ∙ f.1.1.0 in
    ap (λ (b : Bool). cond (nat_eq running n && not b) bad []) (eq-eqb (adds got) orders all) ∙ by (nat_eq running n)
  where
    bad : List (ℕ × List Raw)
    bad = (orders, got) ∷ []

    by : (b : Bool) → cond (b && not true) bad [] ≡ []
    by true = refl
    by false = refl

-- ---- An item more
pub sound_item : (V : List Raw) (E : List Entry) (r : ImageLeft) (i : Item) → Sound V E r → Go V r i → Sound V (heard i E) (next V i r)
sound_item V E r (item.SpinReply n orders status) s g =
    record { honest = (tt, s.honest); never = s.never; fits = fits_replied V (spin_of E) n orders r (is_accepted status) s.fits g }
sound_item V E r (item.ImageMessages raws) s g =
    record {
      honest = (tt, s.honest);
      never = s.never;
      fits = subst (λ (x : ImageLeft). Fits V (spin_more (spin_of E) raws.items) (rest_more (length raws.items) x)) (sym g.1.1)
          (fits_more V (spin_of E) g.0 raws.items g.1.0 (subst (Fits V (spin_of E)) g.1.1 s.fits));
    }
sound_item V E r (item.SpinFinished n) s g =
    let f : Fits V (spin_of E) (Some (n, [])) = subst (Fits V (spin_of E)) g s.fits in
    record { honest = (finished_is V (spin_of E) n f, s.honest); never = (never_is V (spin_of E) n f, s.never); fits = fits_finished V (spin_of E) n f }
sound_item V E r (item.Advertised n) s g = record { honest = (g, s.honest); never = s.never; fits = s.fits }
sound_item V E r item.SpinUp s g = record { honest = (tt, s.honest); never = s.never; fits = s.fits }
sound_item V E r (item.Messages first raws) s g = absurd g
sound_item V E r (item.Next n) s g = absurd g
sound_item V E r item.Nothing s g = absurd g
sound_item V E r item.GrpUp s g = absurd g
sound_item V E r item.GrpDown s g = absurd g
sound_item V E r (item.GapReply n count status) s g = absurd g
sound_item V E r item.SpinDown s g = absurd g

-- ---- Anything else
pub sound_cut : (V : List Raw) (E : List Entry) (r : ImageLeft) → Sound V E r → Sound V (SpinDown ∷ E) None
sound_cut V E r s = record { honest = (tt, s.honest); never = s.never; fits = fits_none V None }

pub sound_none : (V : List Raw) → Sound V [] None
sound_none V = record { honest = tt; never = tt; fits = fits_none V None }

pub sound_entry : (V : List Raw) (E : List Entry) (r : ImageLeft) (entry : Entry) → Sound V E r → MayHear V entry → Sound V (entry ∷ E) r
sound_entry V E r (Message sequence raw) s m = record { honest = (m, s.honest); never = s.never; fits = s.fits }
sound_entry V E r (Next n) s m = record { honest = (m, s.honest); never = s.never; fits = s.fits }
sound_entry V E r GrpUp s m = record { honest = (tt, s.honest); never = s.never; fits = s.fits }
sound_entry V E r GrpDown s m = record { honest = (tt, s.honest); never = s.never; fits = s.fits }
sound_entry V E r (GapReply accepted) s m = record { honest = (tt, s.honest); never = s.never; fits = s.fits }
sound_entry V E r SpinUp s m = record { honest = (tt, s.honest); never = s.never; fits = s.fits }
sound_entry V E r (Ticked a) s m = record { honest = (tt, s.honest); never = s.never; fits = fits_asked V a (spin_of E) r s.fits }
sound_entry V E r SpinDown s m = absurd m
sound_entry V E r (Advertised sequence) s m = absurd m
sound_entry V E r (SpinReply sequence orders accepted) s m = absurd m
sound_entry V E r (ImageMessages raws) s m = absurd m
sound_entry V E r (SpinFinished sequence) s m = absurd m
