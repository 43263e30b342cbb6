-- Tables of sessions: where one is found, and what becomes of it there.
use Rattle.std.proofs.Common.{◌≡◌, ℕ, zero, suc, ◌+◌, ◌<◌, ◌≤◌, Bool, true, false, not, cond, List, [], ◌∷◌, ◌++◌, map, length, set, get_or, remove, position, ◌==◌, nat_lt, Option, Some, None, is_some, Result, Ok, Err, IfOk, refl, sym, ap, ◌∙◌, subst, arith}
use Rattle.std.specs.List.{AllZip, position_or_len}
use Rattle.std.proofs.lemmas.Grind.{common_steps}
use Rattle.std.proofs.lemmas.List.{set_at, get_or_at}
use Rattle.std.proofs.lemmas.List.Edits.{remove-append_left}
use Rattle.session_ends.specs.Events.{Event}
use Rattle.spin_server.specs.Serving.{Serving, blocks_left}
use Rattle.venue_end.specs.Feeding.{left_in}
use Rattle.venue_end.specs.Sessions.{Session, session_of, at_session, without, new_session, with_new}
use Rattle.venue_end.specs.Stands.{PlaceIs}
use Rattle.venue_end.specs.declared.setup.VenueSetup.{VenueSetup}
use Rattle.venue_end.specs.declared.table.Place.{Place}

-- the first so many become others
abbrev pub firsts : {X : Type 0} → ℕ → (Session X → Session X) → List (Session X) → List (Session X)
firsts zero becomes ks = ks
firsts (suc n) becomes [] = []
firsts (suc n) becomes (k ∷ ks) = becomes k ∷ firsts n becomes ks

-- ---- Answers
pub if_ok_map : {A E : Type 0} (P Q : A → Type 0) (r : Result A E) → IfOk r P → ((a : A) → P a → Q a) → IfOk r Q
if_ok_map P Q (Ok a) p f = f a p
if_ok_map P Q (Err e) p f = tt

-- ---- Lists
placed : (n l at : ℕ) → cond (nat_lt n l) (Some n) None ≡ Some at → (at ≡ n) × (at < l)
placed n l at e =
    let same : at ≡ n = grind (arith, common_steps) in
    let lt : n < l = grind (arith, common_steps) in
    (same, omega (arith, same, lt))

unplaced : (n l : ℕ) → cond (nat_lt n l) (Some n) None ≡ None → l ≤ n
unplaced n l e = grind (arith, common_steps)

remove_joined : {A : Type 0} → (xs : List A) (x : A) (ys : List A) → remove (xs ++ x ∷ ys) (length xs) ≡ xs ++ ys
remove_joined {A} [] x ys = refl
remove_joined {A} (z ∷ xs) x ys = ap (λ (zs : List A). z ∷ zs) (remove_joined xs x ys)

-- ---- What is left of the image of the session of a number
left_by : (id at : ℕ) (ps : List (Place Serving)) (old new : Place Serving) → at ≡ position_or_len (λ (p : Place Serving). p.id == id) ps → at < length ps → old ≡ get_or ps at old → new.id ≡ old.id
    → (left_in id ps ≡ blocks_left old.server.spin) × (left_in id (set ps at new) ≡ blocks_left new.server.spin)
left_by id at [] old new at_is lt read same = absurd (omega (arith, lt))
left_by id at (p ∷ ps) old new at_is lt read same = by (p.id == id) at refl at_is lt read (λ n n_is below there. left_by id n ps old new n_is below there same)
  where
    by : (b : Bool) (at : ℕ) → (p.id == id) ≡ b → at ≡ cond (not b) (1 + position_or_len (λ (p : Place Serving). p.id == id) ps) 0 → at < suc (length ps) → old ≡ get_or (p ∷ ps) at old
        → ((n : ℕ) → n ≡ position_or_len (λ (p : Place Serving). p.id == id) ps → n < length ps → old ≡ get_or ps n old → (left_in id ps ≡ blocks_left old.server.spin) × (left_in id (set ps n new) ≡ blocks_left new.server.spin))
        → (left_in id (p ∷ ps) ≡ blocks_left old.server.spin) × (left_in id (set (p ∷ ps) at new) ≡ blocks_left new.server.spin)
    by true zero is at_is lt read later = (
      ap (λ (b : Bool). cond b (blocks_left p.server.spin) (left_in id ps)) is ∙ ap (λ (q : Place Serving). blocks_left q.server.spin) (sym read),
      ap (λ (b : Bool). cond b (blocks_left new.server.spin) (left_in id ps)) (ap (λ (n : ℕ). n == id) (same ∙ ap (λ (q : Place Serving). q.id) read) ∙ is),
    )
    by true (suc n) is at_is lt read later = absurd (omega (arith, at_is))
    by false zero is at_is lt read later = absurd (omega (arith, at_is))
    by false (suc n) is at_is lt read later =
        let rest = later n (omega (arith, at_is)) (omega (arith, lt)) read in
        (ap (λ (b : Bool). cond b (blocks_left p.server.spin) (left_in id ps)) is ∙ rest.0, ap (λ (b : Bool). cond b (blocks_left p.server.spin) (left_in id (set ps n new))) is ∙ rest.1)

pub fewer_at : (id at : ℕ) (ps : List (Place Serving)) (old new : Place Serving) → position (λ (p : Place Serving). p.id == id) ps ≡ Some at → old ≡ get_or ps at old → new.id ≡ old.id
    → blocks_left new.server.spin < blocks_left old.server.spin → left_in id (set ps at new) < left_in id ps
fewer_at id at ps old new e read same fewer =
    let where_is = placed (position_or_len (λ (p : Place Serving). p.id == id) ps) (length ps) at e in
    let left = left_by id at ps old new where_is.0 where_is.1 read same in
    let before = left.0 in
    let after = left.1 in
    omega (arith, before, after, fewer)

module _ {S X : Type 0} (is_server : S → VenueSetup → List (Event X) → Type 0) (s : VenueSetup) where
  abbrev R : Place S → Session X → Type 0
  R place k = PlaceIs is_server s place k

  -- the session of a number stands at this place
  pub record Found (id at : ℕ) (ps : List (Place S)) (ks : List (Session X)) : Type 0 where
    pub left : List (Place S)
    pub right : List (Place S)
    pub place : Place S
    pub lefts : List (Session X)
    pub rights : List (Session X)
    pub session : Session X
    pub within : at < length ps
    pub ps_is : ps ≡ left ++ place ∷ right
    pub long : length left ≡ at
    pub lefts_are : AllZip R left lefts
    pub is : R place session
    pub rights_are : AllZip R right rights
    pub there : session_of id ks ≡ Some session
    pub others : without id ks ≡ lefts ++ rights
    pub becomes : (f : Session X → Session X) → at_session id f ks ≡ lefts ++ f session ∷ rights

  pub found : (id at : ℕ) (ps : List (Place S)) (ks : List (Session X)) → at ≡ position_or_len (λ (p : Place S). p.id == id) ps → at < length ps → AllZip R ps ks → Found id at ps ks
  found id at [] ks at_is lt are = absurd (omega (arith, lt))
  found id at (p ∷ ps) [] at_is lt are = absurd are
  found id at (p ∷ ps) (k ∷ ks) at_is lt are =
      by (p.id == id) at (ap (λ (n : ℕ). n == id) (sym are.0.id_is)) at_is lt (λ n n_is below. found id n ps ks n_is below are.1)
    where
      by : (b : Bool) (at : ℕ) → (k.id == id) ≡ b → at ≡ cond (not b) (1 + position_or_len (λ (p : Place S). p.id == id) ps) 0 → at < suc (length ps) → ((n : ℕ) → n ≡ position_or_len (λ (p : Place S). p.id == id) ps → n < length ps → Found id n ps ks) → Found id at (p ∷ ps) (k ∷ ks)
      by true at same at_is lt later = record {
        left = [];
        right = ps;
        place = p;
        lefts = [];
        rights = ks;
        session = k;
        within = lt;
        ps_is = refl;
        long = sym at_is;
        lefts_are = tt;
        is = are.0;
        rights_are = are.1;
        there = ap (λ (b : Bool). cond b (Some k) (session_of id ks)) same;
        others = ap (λ (b : Bool). cond b ks (k ∷ without id ks)) same;
        becomes = λ f. ap (λ (b : Bool). cond b (f k ∷ ks) (k ∷ at_session id f ks)) same;
      }
      by false zero same at_is lt later = absurd (omega (arith, at_is))
      by false (suc n) same at_is lt later =
          let rest = later n (omega (arith, at_is)) (omega (arith, lt)) in
          record {
            left = p ∷ rest.left;
            right = rest.right;
            place = rest.place;
            lefts = k ∷ rest.lefts;
            rights = rest.rights;
            session = rest.session;
            within = lt;
            ps_is = ap (λ (qs : List (Place S)). p ∷ qs) rest.ps_is;
            long = ap (λ (m : ℕ). suc m) rest.long;
            lefts_are = (are.0, rest.lefts_are);
            is = rest.is;
            rights_are = rest.rights_are;
            there = ap (λ (b : Bool). cond b (Some k) (session_of id ks)) same ∙ rest.there;
            others = ap (λ (b : Bool). cond b ks (k ∷ without id ks)) same ∙ ap (λ (ls : List (Session X)). k ∷ ls) rest.others;
            becomes = λ f. ap (λ (b : Bool). cond b (f k ∷ ks) (k ∷ at_session id f ks)) same ∙ ap (λ (ls : List (Session X)). k ∷ ls) (rest.becomes f);
          }

  -- no session has the number
  pub record Missing (id : ℕ) (ks : List (Session X)) : Type 0 where
    pub none : session_of id ks ≡ None
    pub others : without id ks ≡ ks
    pub becomes : (f : Session X → Session X) → at_session id f ks ≡ ks

  pub missing : (id : ℕ) (ps : List (Place S)) (ks : List (Session X)) → length ps ≤ position_or_len (λ (p : Place S). p.id == id) ps → AllZip R ps ks → Missing id ks
  missing id [] [] all are = record { none = refl; others = refl; becomes = λ f. refl }
  missing id [] (k ∷ ks) all are = absurd are
  missing id (p ∷ ps) [] all are = absurd are
  missing id (p ∷ ps) (k ∷ ks) all are = by (p.id == id) (ap (λ (n : ℕ). n == id) (sym are.0.id_is)) all (λ more. missing id ps ks more are.1)
    where
      by : (b : Bool) → (k.id == id) ≡ b → suc (length ps) ≤ cond (not b) (1 + position_or_len (λ (p : Place S). p.id == id) ps) 0 → (length ps ≤ position_or_len (λ (p : Place S). p.id == id) ps → Missing id ks) → Missing id (k ∷ ks)
      by true same all later = absurd (omega (arith, all))
      by false same all later =
          let rest = later (omega (arith, all)) in
          record {
            none = ap (λ (b : Bool). cond b (Some k) (session_of id ks)) same ∙ rest.none;
            others = ap (λ (b : Bool). cond b ks (k ∷ without id ks)) same ∙ ap (λ (ls : List (Session X)). k ∷ ls) rest.others;
            becomes = λ f. ap (λ (b : Bool). cond b (f k ∷ ks) (k ∷ at_session id f ks)) same ∙ ap (λ (ls : List (Session X)). k ∷ ls) (rest.becomes f);
          }

  -- ---- By what `find` answers
  pub found_at : (id at : ℕ) (ps : List (Place S)) (ks : List (Session X)) → position (λ (p : Place S). p.id == id) ps ≡ Some at → AllZip R ps ks → Found id at ps ks
  found_at id at ps ks e are =
      let where_is = placed (position_or_len (λ (p : Place S). p.id == id) ps) (length ps) at e in
      found id at ps ks where_is.0 where_is.1 are

  pub missing_at : (id : ℕ) (ps : List (Place S)) (ks : List (Session X)) → position (λ (p : Place S). p.id == id) ps ≡ None → AllZip R ps ks → Missing id ks
  missing_at id ps ks e are = missing id ps ks (unplaced (position_or_len (λ (p : Place S). p.id == id) ps) (length ps) e) are

  -- ---- Tables that are joined
  pub zip_joined : (ps qs : List (Place S)) (ks ls : List (Session X)) → AllZip R ps ks → AllZip R qs ls → AllZip R (ps ++ qs) (ks ++ ls)
  zip_joined [] qs [] ls are more = more
  zip_joined [] qs (k ∷ ks) ls are more = absurd are
  zip_joined (p ∷ ps) qs [] ls are more = absurd are
  zip_joined (p ∷ ps) qs (k ∷ ks) ls are more = (are.0, zip_joined ps qs ks ls are.1 more)

  -- ---- What becomes of a table there
  pub becomes_there : (id at : ℕ) (ps : List (Place S)) (ks : List (Session X)) (new : Place S) (f : Session X → Session X) → (is : Found id at ps ks) → R new (f is.session) → AllZip R (set ps at new) (at_session id f ks)
  becomes_there id at ps ks new f is stands =
      let now : set ps at new ≡ is.left ++ new ∷ is.right = ap (λ (qs : List (Place S)). set qs at new) is.ps_is ∙ set_at is.left is.place is.right new at is.long in
      let joined : AllZip R (is.left ++ new ∷ is.right) (is.lefts ++ f is.session ∷ is.rights) = zip_joined is.left (new ∷ is.right) is.lefts (f is.session ∷ is.rights) is.lefts_are (stands, is.rights_are) in
      subst (λ (qs : List (Place S)). AllZip R qs (at_session id f ks)) (sym now) (subst (λ (ls : List (Session X)). AllZip R (is.left ++ new ∷ is.right) ls) (sym (is.becomes f)) joined)

  pub gone_there : (id at : ℕ) (ps : List (Place S)) (ks : List (Session X)) → Found id at ps ks → AllZip R (remove ps at) (without id ks)
  gone_there id at ps ks is =
      let now : remove ps at ≡ is.left ++ is.right = ap (λ (qs : List (Place S)). remove qs at) is.ps_is ∙ ap (λ (n : ℕ). remove (is.left ++ is.place ∷ is.right) n) (sym is.long) ∙ remove_joined is.left is.place is.right in
      let joined : AllZip R (is.left ++ is.right) (is.lefts ++ is.rights) = zip_joined is.left is.right is.lefts is.rights is.lefts_are is.rights_are in
      subst (λ (qs : List (Place S)). AllZip R qs (without id ks)) (sym now) (subst (λ (ls : List (Session X)). AllZip R (is.left ++ is.right) ls) (sym is.others) joined)

  -- a new one is put behind them
  pub opened_there : (id at : ℕ) (ps : List (Place S)) (ks : List (Session X)) (new : Place S) → Found id at ps ks → R new (new_session id) → AllZip R (remove (ps ++ new ∷ []) at) (with_new id ks)
  opened_there id at ps ks new is stands =
      subst (λ (qs : List (Place S)). AllZip R qs (with_new id ks)) (sym (remove-append_left ps (new ∷ []) at is.within))
      (zip_joined (remove ps at) (new ∷ []) (without id ks) (new_session id ∷ []) (gone_there id at ps ks is) (stands, tt))

  pub opened_missing : (id : ℕ) (ps : List (Place S)) (ks : List (Session X)) (new : Place S) → Missing id ks → AllZip R ps ks → R new (new_session id) → AllZip R (ps ++ new ∷ []) (with_new id ks)
  opened_missing id ps ks new none are stands =
      zip_joined ps (new ∷ []) (without id ks) (new_session id ∷ []) (subst (λ (ls : List (Session X)). AllZip R ps ls) (sym none.others) are) (stands, tt)

  -- also where another stood there meanwhile
  pub gone_after : (id at : ℕ) (ps : List (Place S)) (ks : List (Session X)) (new : Place S) → Found id at ps ks → AllZip R (remove (set ps at new) at) (without id ks)
  gone_after id at ps ks new is =
      let now : remove (set ps at new) at ≡ is.left ++ is.right = ap (λ (qs : List (Place S)). remove qs at) (ap (λ (qs : List (Place S)). set qs at new) is.ps_is ∙ set_at is.left is.place is.right new at is.long)
      ∙ ap (λ (n : ℕ). remove (is.left ++ new ∷ is.right) n) (sym is.long) ∙ remove_joined is.left new is.right in
      let joined : AllZip R (is.left ++ is.right) (is.lefts ++ is.rights) = zip_joined is.left is.right is.lefts is.rights is.lefts_are is.rights_are in
      subst (λ (qs : List (Place S)). AllZip R qs (without id ks)) (sym now) (subst (λ (ls : List (Session X)). AllZip R (is.left ++ is.right) ls) (sym is.others) joined)

  pub read_there : (id at : ℕ) (ps : List (Place S)) (ks : List (Session X)) (d : Place S) → (is : Found id at ps ks) → get_or ps at d ≡ is.place
  read_there id at ps ks d is = ap (λ (qs : List (Place S)). get_or qs at d) is.ps_is ∙ get_or_at is.left is.place is.right d at is.long

  -- ---- In the words of the code, whose place `old` becomes `new`
  pub stood : (id at : ℕ) (ps : List (Place S)) (ks : List (Session X)) (old : Place S) → old ≡ get_or ps at old → (is : Found id at ps ks) → R old is.session
  stood id at ps ks old read is = subst (λ (p : Place S). R p is.session) (sym (read ∙ read_there id at ps ks old is)) is.is

  pub becomes_at : (id at : ℕ) (ps : List (Place S)) (ks : List (Session X)) (old new : Place S) (f : Session X → Session X) → position (λ (p : Place S). p.id == id) ps ≡ Some at → old ≡ get_or ps at old → AllZip R ps ks
      → ((k : Session X) → R old k → R new (f k)) → AllZip R (set ps at new) (at_session id f ks)
  becomes_at id at ps ks old new f e read are does =
      let is = found_at id at ps ks e are in
      becomes_there id at ps ks new f is (does is.session (stood id at ps ks old read is))

  pub gone_at : (id at : ℕ) (ps : List (Place S)) (ks : List (Session X)) → position (λ (p : Place S). p.id == id) ps ≡ Some at → AllZip R ps ks → AllZip R (remove ps at) (without id ks)
  gone_at id at ps ks e are = gone_there id at ps ks (found_at id at ps ks e are)

  pub failed_at : (id at : ℕ) (ps : List (Place S)) (ks : List (Session X)) (new : Place S) → position (λ (p : Place S). p.id == id) ps ≡ Some at → AllZip R ps ks → AllZip R (remove (set ps at new) at) (without id ks)
  failed_at id at ps ks new e are = gone_after id at ps ks new (found_at id at ps ks e are)

  -- it is not missing
  pub not_missing : (id at : ℕ) (ps : List (Place S)) (ks : List (Session X)) → position (λ (p : Place S). p.id == id) ps ≡ Some at → AllZip R ps ks → session_of id ks ≡ None → ⊥
  not_missing id at ps ks e are none =
      let is = found_at id at ps ks e are in
      some_none is.session (sym is.there ∙ none)
    where
      some_none : (k : Session X) → ◌≡◌ {A = Option (Session X)} (Some k) None → ⊥
      some_none k e = cc

  -- what is seen of the session
  pub seen_at : {A : Type 0} (id at : ℕ) (ps : List (Place S)) (ks : List (Session X)) (old : Place S) (seen : Option (Session X) → A) (a : A) → position (λ (p : Place S). p.id == id) ps ≡ Some at → old ≡ get_or ps at old → AllZip R ps ks
      → ((k : Session X) → R old k → a ≡ seen (Some k)) → a ≡ seen (session_of id ks)
  seen_at id at ps ks old seen a e read are does =
      let is = found_at id at ps ks e are in
      does is.session (stood id at ps ks old read is) ∙ ap seen (sym is.there)

  -- whether there is one
  pub has_one : (id : ℕ) (ps : List (Place S)) (ks : List (Session X)) (at : Option ℕ) → position (λ (p : Place S). p.id == id) ps ≡ at → AllZip R ps ks → is_some at ≡ is_some (session_of id ks)
  has_one id ps ks (Some at) e are = ap (λ (o : Option (Session X)). is_some o) (sym (found_at id at ps ks e are).there)
  has_one id ps ks None e are = ap (λ (o : Option (Session X)). is_some o) (sym (missing_at id ps ks e are).none)

  -- where it stays what it was, all do
  unchanged : (id : ℕ) (ks : List (Session X)) → at_session id (λ k. k) ks ≡ ks
  unchanged id [] = refl
  unchanged id (k ∷ ks) = by (k.id == id) (unchanged id ks)
    where
      by : (b : Bool) → at_session id (λ k. k) ks ≡ ks → cond b (k ∷ ks) (k ∷ at_session id (λ k. k) ks) ≡ k ∷ ks
      by true rest = refl
      by false rest = ap (λ (ls : List (Session X)). k ∷ ls) rest

  pub stays_at : (id at : ℕ) (ps : List (Place S)) (ks : List (Session X)) (old new : Place S) → position (λ (p : Place S). p.id == id) ps ≡ Some at → old ≡ get_or ps at old → AllZip R ps ks → ((k : Session X) → R old k → R new k) → AllZip R (set ps at new) ks
  stays_at id at ps ks old new e read are does = subst (λ (ls : List (Session X)). AllZip R (set ps at new) ls) (unchanged id ks) (becomes_at id at ps ks old new (λ k. k) e read are does)

  -- ---- One after another
  steps : (f : Session X → Session X) (i : ℕ) (ps : List (Place S)) (ks : List (Session X)) (d new : Place S) → i < length ps → AllZip R ps (firsts i f ks) → ((k : Session X) → R (get_or ps i d) k → R new (f k)) → AllZip R (set ps i new) (firsts (suc i) f ks)
  steps f i [] ks d new lt are does = absurd (omega (arith, lt))
  steps f zero (p ∷ ps) [] d new lt are does = absurd are
  steps f zero (p ∷ ps) (k ∷ ks) d new lt are does = (does k are.0, are.1)
  steps f (suc n) (p ∷ ps) [] d new lt are does = absurd are
  steps f (suc n) (p ∷ ps) (k ∷ ks) d new lt are does = (are.0, steps f n ps ks d new (omega (arith, lt)) are.1 does)

  pub next_becomes : (f : Session X → Session X) (i : ℕ) (ps : List (Place S)) (ks : List (Session X)) (d new : Place S) → i < length ps → AllZip R ps (firsts i f ks) → ((k : Session X) → R (get_or ps i d) k → R new (f k)) → AllZip R (set ps i new) (firsts (i + 1) f ks)
  next_becomes f i ps ks d new lt are does =
      let same : suc i ≡ i + 1 = omega arith in
      subst (λ (n : ℕ). AllZip R (set ps i new) (firsts n f ks)) same (steps f i ps ks d new lt are does)

  pub all_became : (f : Session X → Session X) (i : ℕ) (ps : List (Place S)) (ks : List (Session X)) → length ps ≤ i → AllZip R ps (firsts i f ks) → AllZip R ps (map f ks)
  all_became f zero [] [] all are = tt
  all_became f zero [] (k ∷ ks) all are = absurd are
  all_became f (suc n) [] [] all are = tt
  all_became f (suc n) [] (k ∷ ks) all are = absurd are
  all_became f zero (p ∷ ps) ks all are = absurd (omega (arith, all))
  all_became f (suc n) (p ∷ ps) [] all are = absurd are
  all_became f (suc n) (p ∷ ps) (k ∷ ks) all are = (are.0, all_became f n ps ks (omega (arith, all)) are.1)
