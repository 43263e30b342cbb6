-- What a caller needs besides the law.
use Rattle.std.proofs.Common.{Bool, true, false, cond, nat_lt, ◌≡◌, ℕ, zero, suc, List, [], ◌∷◌, ◌++◌, length, replicate, refl, ap, ◌∙◌, arith, append_assoc, length-append}
use Rattle.pitch_model.proofs.Growing.{message_more}
use Rattle.pitch_fields.proofs.Lists.{all_follows}
use Rattle.heard_items.specs.declared.item.Item.{Item}
use Rattle.heard_items.specs.declared.item.Item.TheVariants as item
use Rattle.heard_items.specs.declared.change.ImageEnd.TheVariants as end
use Rattle.pitch_model.specs.Reach.{reach}
use Rattle.pitch_model.specs.History.{Entry, Raw, Message, Next, GrpUp, GrpDown, GapReply, SpinUp, SpinDown, Advertised, SpinReply, ImageMessages, SpinFinished, Ticked as TickedEntry, image_finished, bad_image, spin_of}
use Rattle.heard_items.specs.Heard.{heard, heard_all}
use Rattle.heard_items.specs.Changes.{image_end_at}
use Rattle.session_ends.specs.Closing.{Setup}
use Rattle.session_ends.specs.Events.{Event, Fed, Ticked, Asked, Pumped, Told}
use Rattle.spin_server.specs.Served.{Served}
use Rattle.spin_path.specs.Paths.{Path, Move, Serves, Links, Takes, Cuts, Hears, path_of, IsShown}
use Rattle.spin_path.specs.Paths.{MayServe, MayHear, taken, MayMove, AreMoves}
use Rattle.spin_path.specs.PathLaws.{MovesStay, AllAreTaken, NeverAnswered}

-- ---- More messages
shown_more : (V more : List Raw) (view : Served) → IsShown V view → IsShown (V ++ more) view
shown_more V more view s = record {
  more = s.more ++ more;
  messages_are = ap (λ (l : List Raw). l ++ more) s.messages_are ∙ append_assoc view.messages s.more more;
  within = s.within;
}

serve_more : (V more : List Raw) (event : Event (List Served)) → MayServe V event → MayServe (V ++ more) event
serve_more V more (Fed bytes views) may = all_follows (IsShown V) (IsShown (V ++ more)) (shown_more V more) views may
serve_more V more (Told n) may = omega (arith, may, length-append V more)
serve_more V more Ticked may = tt
serve_more V more (Asked request) may = tt
serve_more V more Pumped may = tt

hear_more : (V more : List Raw) (entry : Entry) → MayHear V entry → MayHear (V ++ more) entry
hear_more V more (Message n raw) may = message_more V more n raw may
hear_more V more (Next n) may = omega (arith, may, length-append V more)
hear_more V more GrpUp may = tt
hear_more V more GrpDown may = tt
hear_more V more (GapReply accepted) may = tt
hear_more V more SpinUp may = tt
hear_more V more (TickedEntry a) may = tt
hear_more V more SpinDown may = absurd may
hear_more V more (Advertised n) may = absurd may
hear_more V more (SpinReply n orders accepted) may = absurd may
hear_more V more (ImageMessages raws) may = absurd may
hear_more V more (SpinFinished n) may = absurd may

move_more : (V more : List Raw) (p : Path) (move : Move) → MayMove V p move → MayMove (V ++ more) p move
move_more V more p (Serves event) may = serve_more V more event may
move_more V more p (Links event) may = may
move_more V more p Takes may = tt
move_more V more p (Cuts setup) may = may
move_more V more p (Hears entry) may = hear_more V more entry may

pub moves_stay : MovesStay
moves_stay V more setup [] are = are
moves_stay V more setup (move ∷ moves) are = (move_more V more (path_of setup moves) move are.0, moves_stay V more setup moves are.1)

-- ---- All that was told
abbrev emptied : Path → List Item → Path
emptied p items = record p { told = []; history = heard_all items p.history }

replicate_end : (n : ℕ) (moves : List Move) → replicate (suc n) Takes ++ moves ≡ replicate n Takes ++ (Takes ∷ moves)
replicate_end zero moves = refl
replicate_end (suc n) moves = ap (λ (l : List Move). Takes ∷ l) (replicate_end n moves)

taken_by : (setup : Setup) (items : List Item) (moves : List Move) → (path_of setup moves).told ≡ items → path_of setup (replicate (length items) Takes ++ moves) ≡ emptied (path_of setup moves) items
taken_by setup [] moves is = ap (λ (l : List Item). record (path_of setup moves) { told = l }) is
taken_by setup (i ∷ items) moves is =
    let one : path_of setup (Takes ∷ moves) ≡ record (path_of setup moves) { told = items; history = heard i (path_of setup moves).history } = ap (taken (path_of setup moves)) is in
    ap (path_of setup) (replicate_end (length items) moves)
    ∙ taken_by setup items (Takes ∷ moves) (ap (λ (p : Path). p.told) one)
    ∙ ap (λ (p : Path). emptied p items) one

are_taken : (V : List Raw) (setup : Setup) (n : ℕ) (moves : List Move) → AreMoves V setup moves → AreMoves V setup (replicate n Takes ++ moves)
are_taken V setup zero moves are = are
are_taken V setup (suc n) moves are = (tt, are_taken V setup n moves are)

pub all_are_taken : AllAreTaken
all_are_taken V setup moves are = (are_taken V setup (length (path_of setup moves).told) moves are, taken_by setup (path_of setup moves).told moves refl)

-- ---- What a change says
end_is : (n : ℕ) (images bad : List (ℕ × List Raw)) (promised got : ℕ) → bad ≡ [] → image_end_at n images bad ≡ end.Bad promised got → ⊥
end_is n (image ∷ images) bad promised got none is = by (nat_lt n image.0) is
  where
    by : (b : Bool) → cond b end.Taken end.Stale ≡ end.Bad promised got → ⊥
    by true e = cc
    by false e = cc
end_is n [] [] promised got none is = cc
end_is n [] (b ∷ bad) promised got none is = cc

pub never_answered : NeverAnswered
never_answered H E (item.SpinFinished n) promised got never is = end_is (reach H E) (image_finished (spin_of E) n) (bad_image (spin_of E) n) promised got never.0 is
never_answered H E (item.Messages first raws) promised got never is = cc
never_answered H E (item.Next next) promised got never is = cc
never_answered H E item.Nothing promised got never is = cc
never_answered H E item.GrpUp promised got never is = cc
never_answered H E item.GrpDown promised got never is = cc
never_answered H E (item.GapReply sequence count status) promised got never is = cc
never_answered H E item.SpinUp promised got never is = cc
never_answered H E item.SpinDown promised got never is = cc
never_answered H E (item.Advertised sequence) promised got never is = cc
never_answered H E (item.SpinReply sequence orders status) promised got never is = cc
never_answered H E (item.ImageMessages raws) promised got never is = cc
