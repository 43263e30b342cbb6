-- The session of a number among others, and what becomes of it, where no two have one number.
use Rattle.std.proofs.Common.{◌≡◌, ◌≢◌, ℕ, Bool, true, false, cond, ◌==◌, List, [], ◌∷◌, ◌++◌, map, Option, Some, None, refl, sym, ap, ◌∙◌, subst}
use Rattle.std.specs.List.{AllByRecursion}
use Rattle.std.proofs.lemmas.Bool.{eqb-true, eq-eqb, ne_eqb, false≢true}
use Rattle.std.proofs.lemmas.Option.{none-some, same_Some}
use Rattle.venue_end.specs.Sessions.{Session, session_of, at_session, without}

module _ {X : Type 0} where
  -- no two sessions have one number
  abbrev pub AreApart : List (Session X) → Type 0
  AreApart [] = Unit {0}
  AreApart (k ∷ ks) = (session_of k.id ks ≡ None) × AreApart ks

  -- what holds of each holds of that of a number
  pub all_of : (P : Session X → Type 0) (id : ℕ) (ks : List (Session X)) (session : Session X) → AllByRecursion P ks → session_of id ks ≡ Some session → P session
  all_of P id [] session all is = absurd (none-some session is)
  all_of P id (k ∷ ks) session all is = by (k.id == id) is (all_of P id ks session all.1)
    where
      by : (b : Bool) → cond b (Some k) (session_of id ks) ≡ Some session → (session_of id ks ≡ Some session → P session) → P session
      by true here later = subst P (same_Some k session here) all.0
      by false there later = later there

  -- ---- Without one
  module _ (other : ℕ) where
    pub others_stay : (id : ℕ) (ks : List (Session X)) → (other == id) ≡ false → session_of id (without other ks) ≡ session_of id ks
    others_stay id [] differs = refl
    others_stay id (k ∷ ks) differs = by (k.id == other) refl (others_stay id ks differs)
      where
        by : (b : Bool) → (k.id == other) ≡ b → session_of id (without other ks) ≡ session_of id ks → session_of id (cond b ks (k ∷ without other ks)) ≡ session_of id (k ∷ ks)
        by true is later = sym (ap (λ (b : Bool). cond b (Some k) (session_of id ks)) (ap (λ (n : ℕ). n == id) (eqb-true k.id other is) ∙ differs))
        by false is later = ap (λ (o : Option (Session X)). cond (k.id == id) (Some k) o) later

    pub one_goes : (ks : List (Session X)) → AreApart ks → session_of other (without other ks) ≡ None
    one_goes [] apart = refl
    one_goes (k ∷ ks) apart = by (k.id == other) refl (one_goes ks apart.1)
      where
        by : (b : Bool) → (k.id == other) ≡ b → session_of other (without other ks) ≡ None → session_of other (cond b ks (k ∷ without other ks)) ≡ None
        by true is later = subst (λ (n : ℕ). session_of n ks ≡ None) (eqb-true k.id other is) apart.0
        by false is later = ap (λ (b : Bool). cond b (Some k) (session_of other (without other ks))) is ∙ later

    pub none_without : (id : ℕ) (ks : List (Session X)) → AreApart ks → session_of id ks ≡ None → session_of id (without other ks) ≡ None
    none_without id ks apart none = by (other == id) refl
      where
        by : (b : Bool) → (other == id) ≡ b → session_of id (without other ks) ≡ None
        by true is = subst (λ (n : ℕ). session_of n (without other ks) ≡ None) (eqb-true other id is) (one_goes ks apart)
        by false is = others_stay id ks is ∙ none

    pub apart_without : (ks : List (Session X)) → AreApart ks → AreApart (without other ks)
    apart_without [] apart = tt
    apart_without (k ∷ ks) apart = by (k.id == other) (apart_without ks apart.1)
      where
        by : (b : Bool) → AreApart (without other ks) → AreApart (cond b ks (k ∷ without other ks))
        by true later = apart.1
        by false later = (none_without k.id ks apart.1 apart.0, later)

  -- ---- Session X more
  module _ (new : Session X) where
    pub not_the_last : (id : ℕ) (ks : List (Session X)) → (new.id == id) ≡ false → session_of id (ks ++ new ∷ []) ≡ session_of id ks
    not_the_last id [] differs = ap (λ (b : Bool). cond b (Some new) None) differs
    not_the_last id (k ∷ ks) differs = ap (λ (o : Option (Session X)). cond (k.id == id) (Some k) o) (not_the_last id ks differs)

    pub the_last : (ks : List (Session X)) → session_of new.id ks ≡ None → session_of new.id (ks ++ new ∷ []) ≡ Some new
    the_last [] none = ap (λ (b : Bool). cond b (Some new) None) (eq-eqb new.id new.id refl)
    the_last (k ∷ ks) none = by (k.id == new.id) none (the_last ks)
      where
        by : (b : Bool) → cond b (Some k) (session_of new.id ks) ≡ None → (session_of new.id ks ≡ None → session_of new.id (ks ++ new ∷ []) ≡ Some new) → cond b (Some k) (session_of new.id (ks ++ new ∷ [])) ≡ Some new
        by true here later = absurd (none-some k (sym here))
        by false there later = later there

    pub apart_with : (ks : List (Session X)) → AreApart ks → session_of new.id ks ≡ None → AreApart (ks ++ new ∷ [])
    apart_with [] apart none = (refl, tt)
    apart_with (k ∷ ks) apart none = by (k.id == new.id) refl none (apart_with ks apart.1)
      where
        by : (b : Bool) → (k.id == new.id) ≡ b → cond b (Some k) (session_of new.id ks) ≡ None → (session_of new.id ks ≡ None → AreApart (ks ++ new ∷ [])) → AreApart (k ∷ (ks ++ new ∷ []))
        by true is here later = absurd (none-some k (sym here))
        by false is there later =
            let differs : new.id ≢ k.id = λ e. false≢true (sym is ∙ eq-eqb k.id new.id (sym e)) in
            (not_the_last k.id ks (ne_eqb new.id k.id differs) ∙ apart.0, later there)

  -- ---- Session X becomes another of its number
  module _ (f : Session X → Session X) (keeps : (k : Session X) → (f k).id ≡ k.id) where
    abbrev pub became : Option (Session X) → Option (Session X)
    became None = None
    became (Some k) = Some (f k)

    module _ (other : ℕ) where
      pub one_becomes : (ks : List (Session X)) → session_of other (at_session other f ks) ≡ became (session_of other ks)
      one_becomes [] = refl
      one_becomes (k ∷ ks) = by (k.id == other) refl (one_becomes ks)
        where
          by : (b : Bool) → (k.id == other) ≡ b → session_of other (at_session other f ks) ≡ became (session_of other ks) → session_of other (cond b (f k ∷ ks) (k ∷ at_session other f ks)) ≡ became (cond b (Some k) (session_of other ks))
          by true is later = ap (λ (b : Bool). cond b (Some (f k)) (session_of other ks)) (ap (λ (n : ℕ). n == other) (keeps k) ∙ is)
          by false is later = ap (λ (b : Bool). cond b (Some k) (session_of other (at_session other f ks))) is ∙ later

      pub others_remain : (id : ℕ) (ks : List (Session X)) → (other == id) ≡ false → session_of id (at_session other f ks) ≡ session_of id ks
      others_remain id [] differs = refl
      others_remain id (k ∷ ks) differs = by (k.id == other) refl (others_remain id ks differs)
        where
          by : (b : Bool) → (k.id == other) ≡ b → session_of id (at_session other f ks) ≡ session_of id ks → session_of id (cond b (f k ∷ ks) (k ∷ at_session other f ks)) ≡ session_of id (k ∷ ks)
          by true is later =
              let not_here : (k.id == id) ≡ false = ap (λ (n : ℕ). n == id) (eqb-true k.id other is) ∙ differs in
              ap (λ (b : Bool). cond b (Some (f k)) (session_of id ks)) (ap (λ (n : ℕ). n == id) (keeps k) ∙ not_here) ∙ sym (ap (λ (b : Bool). cond b (Some k) (session_of id ks)) not_here)
          by false is later = ap (λ (o : Option (Session X)). cond (k.id == id) (Some k) o) later

      pub none_at : (id : ℕ) (ks : List (Session X)) → session_of id ks ≡ None → session_of id (at_session other f ks) ≡ None
      none_at id ks none = by (other == id) refl
        where
          by : (b : Bool) → (other == id) ≡ b → session_of id (at_session other f ks) ≡ None
          by true is = subst (λ (n : ℕ). session_of n (at_session other f ks) ≡ None) (eqb-true other id is) (one_becomes ks ∙ ap became (ap (λ (n : ℕ). session_of n ks) (eqb-true other id is) ∙ none))
          by false is = others_remain id ks is ∙ none

      pub apart_at : (ks : List (Session X)) → AreApart ks → AreApart (at_session other f ks)
      apart_at [] apart = tt
      apart_at (k ∷ ks) apart = by (k.id == other) (apart_at ks apart.1)
        where
          by : (b : Bool) → AreApart (at_session other f ks) → AreApart (cond b (f k ∷ ks) (k ∷ at_session other f ks))
          by true later = (subst (λ (n : ℕ). session_of n ks ≡ None) (sym (keeps k)) apart.0, apart.1)
          by false later = (none_at k.id ks apart.0, later)

    -- each does
    pub each_becomes : (id : ℕ) (ks : List (Session X)) → session_of id (map f ks) ≡ became (session_of id ks)
    each_becomes id [] = refl
    each_becomes id (k ∷ ks) = ap (λ (n : ℕ). cond (n == id) (Some (f k)) (session_of id (map f ks))) (keeps k) ∙ by (k.id == id) (each_becomes id ks)
      where
        by : (b : Bool) → session_of id (map f ks) ≡ became (session_of id ks) → cond b (Some (f k)) (session_of id (map f ks)) ≡ became (cond b (Some k) (session_of id ks))
        by true later = refl
        by false later = later

    pub apart_each : (ks : List (Session X)) → AreApart ks → AreApart (map f ks)
    apart_each [] apart = tt
    apart_each (k ∷ ks) apart = (each_becomes (f k).id ks ∙ ap became (subst (λ (n : ℕ). session_of n ks ≡ None) (sym (keeps k)) apart.0), apart_each ks apart.1)
