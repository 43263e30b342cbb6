-- No image of a Spin Server is bad, and each is the venue's, over all moves.
use Rattle.std.proofs.Common.{◌≡◌, ℕ, ◌<◌, List, [], ◌∷◌, ◌++◌, refl, sym, ap, ◌∙◌, subst, append_assoc, None}
use Rattle.std.specs.List.{AllByRecursion}
use Rattle.pitch_model.specs.History.{Raw}
use Rattle.heard_items.specs.declared.item.Item.{Item}
use Rattle.heard_items.specs.Heard.{heard}
use Rattle.session_ends.specs.declared.role.Role.{Role}
use Rattle.session_ends.specs.Closing.{Setup}
use Rattle.session_ends.specs.Events.{Event, Fed, Ticked, Asked, Pumped, Told, fed_of}
use Rattle.session_ends.specs.Sending.{header_unit}
use Rattle.client_links.specs.Linking.{Lookups}
use Rattle.spin_server.specs.Served.{Served}
use Rattle.spin_path.specs.Paths.{Takes, taken, Path, Move, Serves, Links, Cuts, Hears, moved}
use Rattle.spin_path.specs.Paths.{path_of, all_said, says_at, link_told_at, IsSpinServer, MayServe}
use Rattle.spin_path.specs.Paths.{MayMove, AreMoves}
use Rattle.spin_path.specs.PathLaws.{IsFeed, ImagesAreWhole}
use Rattle.spin_path.proofs.Flow.{ImageLeft, Go, Goes, sound_item, rests, rests_append, goes_first, goes_last, Sound, sound_none, sound_cut, sound_entry}
use Rattle.spin_path.proofs.Links.{told_once, told_more, told_over, begins}
use Rattle.spin_path.proofs.Serves.{holds}

record IsSo (V : List Raw) (p : Path) : Type 0 where
  server : IsSpinServer p.setup
  seen : AllByRecursion (MayServe V) p.served
  waits : List ℕ
  fed_is : all_said p.setup p.served ≡ fed_of p.linked ++ waits
  got : List Item
  told_is : told_over p.setup.unit p.linked ≡ got ++ p.told
  sound : Sound V p.history (rests V None got)

-- what a link was told is what a server may cause
told_goes : (V : List Raw) (s : Setup) (es : List (Event (List Served))) (ls : List (Event Lookups)) (later : List ℕ) → IsFeed V → IsSpinServer s → AllByRecursion (MayServe V) es → all_said s es ≡ fed_of ls ++ later
    → Goes V None (told_over s.unit ls)
told_goes V s es ls later venues server seen is =
    let small : header_unit s.role s.unit < 256 = subst (λ (r : Role). header_unit r s.unit < 256) (sym server.role_is) server.unit_is in
    let all : Goes V None (told_once s.unit (fed_of ls ++ later)) = subst (λ (l : List ℕ). Goes V None (told_once s.unit l)) is (holds V venues s small es seen).sent.goes in
    let fed : Goes V None (told_once s.unit (fed_of ls)) = goes_first V None (told_once s.unit (fed_of ls)) _ (subst (Goes V None) (told_more s.unit (fed_of ls) later) all) in
    let b = begins s.unit ls in
    goes_first V None (told_over s.unit ls) b.later (subst (Goes V None) b.are fed)

so_served : (V : List Raw) (event : Event (List Served)) (p : Path) → IsSo V p → MayServe V event → IsSo V (moved (Serves event) p)
so_served V event p so may = record {
  server = so.server;
  seen = (may, so.seen);
  waits = so.waits ++ says_at p.setup event p.served;
  fed_is = ap (λ (l : List ℕ). l ++ says_at p.setup event p.served) so.fed_is ∙ append_assoc (fed_of p.linked) so.waits (says_at p.setup event p.served);
  got = so.got;
  told_is = so.told_is;
  sound = so.sound;
}

so_linked : (V : List Raw) (event : Event Lookups) (p : Path) (later : List ℕ) → IsSo V p → all_said p.setup p.served ≡ fed_of (event ∷ p.linked) ++ later → IsSo V (moved (Links event) p)
so_linked V event p later so is = record {
  server = so.server;
  seen = so.seen;
  waits = later;
  fed_is = is;
  got = so.got;
  told_is = ap (λ (l : List Item). l ++ link_told_at p.setup.unit event p.linked) so.told_is ∙ append_assoc so.got p.told (link_told_at p.setup.unit event p.linked);
  sound = so.sound;
}

so_taken : (V : List Raw) (p : Path) (items : List Item) → IsFeed V → IsSo V p → p.told ≡ items → IsSo V (taken p items)
so_taken V p [] venues so is = so
so_taken V p (item ∷ items) venues so is =
    let told : told_over p.setup.unit p.linked ≡ so.got ++ item ∷ items = so.told_is ∙ ap (λ (l : List Item). so.got ++ l) is in
    let goes : Goes V None (so.got ++ item ∷ items) = subst (Goes V None) told (told_goes V p.setup p.served p.linked so.waits venues so.server so.seen so.fed_is) in
    let first : Go V (rests V None so.got) item = (goes_last V None so.got (item ∷ items) goes).0 in
    record {
      server = so.server;
      seen = so.seen;
      waits = so.waits;
      fed_is = so.fed_is;
      got = so.got ++ item ∷ [];
      told_is = told ∙ sym (append_assoc so.got (item ∷ []) items);
      sound = subst (λ (r : ImageLeft). Sound V (heard item p.history) r) (sym (rests_append V None so.got (item ∷ []))) (sound_item V p.history (rests V None so.got) item so.sound first);
    }

so_moved : (V : List Raw) (move : Move) (p : Path) → IsFeed V → IsSo V p → MayMove V p move → IsSo V (moved move p)
so_moved V (Serves event) p venues so may = so_served V event p so may
so_moved V (Links (Fed bytes seen)) p venues so may = so_linked V (Fed bytes seen) p may.0 so may.1
so_moved V (Links Ticked) p venues so may = so_linked V Ticked p so.waits so so.fed_is
so_moved V (Links (Asked request)) p venues so may = so_linked V (Asked request) p so.waits so so.fed_is
so_moved V (Links Pumped) p venues so may = so_linked V Pumped p so.waits so so.fed_is
so_moved V (Links (Told n)) p venues so may = so_linked V (Told n) p so.waits so so.fed_is
so_moved V Takes p venues so may = so_taken V p p.told venues so refl
so_moved V (Cuts setup) p venues so may = record { server = may; seen = tt; waits = []; fed_is = refl; got = []; told_is = refl; sound = sound_cut V p.history (rests V None so.got) so.sound }
so_moved V (Hears entry) p venues so may = record {
  server = so.server;
  seen = so.seen;
  waits = so.waits;
  fed_is = so.fed_is;
  got = so.got;
  told_is = so.told_is;
  sound = sound_entry V p.history (rests V None so.got) entry so.sound may;
}

all_so : (V : List Raw) (setup : Setup) (moves : List Move) → IsFeed V → AreMoves V setup moves → IsSo V (path_of setup moves)
all_so V setup [] venues are = record { server = are; seen = tt; waits = []; fed_is = refl; got = []; told_is = refl; sound = sound_none V }
all_so V setup (move ∷ moves) venues are = so_moved V move (path_of setup moves) venues (all_so V setup moves venues are.1) are.0

pub images_are_whole : ImagesAreWhole
images_are_whole V setup moves venues are = let so = (all_so V setup moves venues are).sound in record { honest = so.honest; never = so.never }
