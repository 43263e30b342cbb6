-- Which places the texts name, and whether there is an account.
use Rattle.std.proofs.Common.{◌≡◌, ℕ, List, [], ◌∷◌, map, Option, Some, None, is_some, Bool, ◌&&◌, ap, sym, ◌∙◌, refl}
use Rattle.std.specs.List.{before_first, list_all}
use Rattle.std.specs.Str.Parse.{digits_value}
use Rattle.clap.specs.Walk.{Row}
use Rattle.long_options.specs.Words.{Text}
use Rattle.session_ends.specs.declared.account.Account.{Account}
use Rattle.live_words.specs.declared.listen_words.Server.{Server}
use Rattle.live_words.specs.declared.serve_words.Places.{Places}
use Rattle.live_words.specs.Options.{AreNamed, IsAccount, IsServerText, is_at, units_of, can_ask}
use Rattle.live_words.specs.Serving.{ArePlaces, can_serve}

-- the unit that a server's text names
abbrev unit_in : Text → ℕ
unit_in text = digits_value 10 (before_first is_at text)

-- the texts say the units
units_named : (ts : List Text) (xs : List Server) → AreNamed IsServerText ts xs → units_of xs ≡ map unit_in ts
units_named [] [] named = refl
units_named [] (x ∷ xs) named = absurd named
units_named (t ∷ ts) [] named = absurd named
units_named (t ∷ ts) (x ∷ xs) named = (λ i. sym named.0.unit.2 i ∷ units_named ts xs named.1 i)

units_alike : (ts : List Text) (xs ys : List Server) → AreNamed IsServerText ts xs → AreNamed IsServerText ts ys → units_of xs ≡ units_of ys
units_alike ts xs ys x y = units_named ts xs x ∙ sym (units_named ts ys y)

-- the texts say whether there is an account
account_named : (sub user password : Option Text) (account : Option Account) → IsAccount sub user password account → is_some account ≡ is_some sub
account_named (Some s) (Some u) (Some p) (Some a) is = refl
account_named (Some s) (Some u) (Some p) None is = absurd is
account_named (Some s) (Some u) None a is = absurd is
account_named (Some s) None p a is = absurd is
account_named None (Some u) p a is = absurd is
account_named None None (Some p) a is = absurd is
account_named None None None (Some a) is = absurd is
account_named None None None None is = refl

pub account_alike : (sub user password : Option Text) (a b : Option Account) → IsAccount sub user password a → IsAccount sub user password b → is_some a ≡ is_some b
account_alike sub user password a b x y = account_named sub user password a x ∙ sym (account_named sub user password b y)

-- so they say whether the servers can be asked
pub asks_alike : (gs ss : List Text) (sub user password : Option Text) (grp grp' spin spin' : List Server) (account account' : Option Account)
    → AreNamed IsServerText gs grp → AreNamed IsServerText gs grp' → AreNamed IsServerText ss spin → AreNamed IsServerText ss spin'
    → IsAccount sub user password account → IsAccount sub user password account'
    → can_ask (units_of grp) (units_of spin) (is_some account) ≡ can_ask (units_of grp') (units_of spin') (is_some account')
asks_alike gs ss sub user password grp grp' spin spin' account account' g g' s s' a a' =
    let units = units_alike gs grp grp' g g' in
    let others = units_alike ss spin spin' s s' in
    let has = account_alike sub user password account account' a a' in
    λ i. can_ask (units i) (others i) (has i)

-- and whether the places can be served
pub serves_alike : (rows : List Row) (p q : Places) (has : Bool) → ArePlaces rows p → ArePlaces rows q
    → can_serve (units_of p.a.items) (units_of p.b.items) (units_of p.gap.items) (units_of p.grp.items) (units_of p.spin.items) has
    ≡ can_serve (units_of q.a.items) (units_of q.b.items) (units_of q.gap.items) (units_of q.grp.items) (units_of q.spin.items) has
serves_alike rows p q has x y =
    let a = units_alike _ _ _ x.a y.a in
    let b = units_alike _ _ _ x.b y.b in
    let gap = units_alike _ _ _ x.gap y.gap in
    let grp = units_alike _ _ _ x.grp y.grp in
    let spin = units_alike _ _ _ x.spin y.spin in
    λ i. can_serve (a i) (b i) (gap i) (grp i) (spin i) has

-- a test of all of a mapped list
pub list_all-map : {X Y : Type 0} (p : Y → Bool) (f : X → Y) (xs : List X) → list_all (λ x. p (f x)) xs ≡ list_all p (map f xs)
list_all-map p f [] = refl
list_all-map p f (x ∷ xs) = ap (λ t. p (f x) && t) (list_all-map p f xs)
