-- What a link that stays open tells, piece by piece.
use Rattle.std.proofs.Common.{◌≡◌, ℕ, Bool, cond, List, [], ◌∷◌, ◌++◌, refl, sym, ap, ◌∙◌, append_assoc, Option, None, is_some}
use Rattle.std.proofs.lemmas.List.{append-nil}
use Rattle.unit_packets.specs.Blocks.{Block, IsBlock}
use Rattle.unit_packets.specs.Cutting.{rest_of}
use Rattle.heard_items.specs.declared.item.Item.{Item}
use Rattle.session_ends.specs.declared.closed.Closed.{Closed}
use Rattle.session_ends.specs.declared.inbox.Heard.{Heard}
use Rattle.session_ends.specs.declared.role.Role.{Role}
use Rattle.session_ends.specs.declared.role.Role.TheVariants.{GrpServer, SpinServer, GapLink, SpinLink}
use Rattle.session_ends.specs.Closing.{Setup, closed_of, first_cause, logged_in}
use Rattle.session_ends.specs.Events.{Event, Fed, fed_of}
use Rattle.session_ends.specs.Items.{messages_from}
use Rattle.session_ends.specs.Sending.{new_items}
use Rattle.session_ends.proofs.Cuts.{closes_once}
use Rattle.client_links.specs.Linking.{Lookups, NoLookup, link_tells}
use Rattle.client_links.specs.Telling.{run_of, tells}
use Rattle.client_links.proofs.Whole.{tells_once}
use Rattle.world_laws.proofs.OneBlock.{rest_more, new_is, closed_is, none_new, none_closed}

-- a link that is open, behind whole blocks
pub record IsReady (s : Setup) (ls : List (Event Lookups)) : Type 0 where
  pub open_is : closed_of s ls ≡ None
  pub whole : rest_of (fed_of ls) ≡ []

-- it is fed a piece, of which it tells these items, and is ready again
pub record TellsOf (s : Setup) (ls : List (Event Lookups)) (piece : List ℕ) (items : List Item) : Type 0 where
  pub told : link_tells s ls piece ≡ items
  pub after : IsReady s (Fed piece NoLookup ∷ ls)

told_here : (s : Setup) (ls : List (Event Lookups)) (piece : List ℕ) (o : Option Closed) → List Item
told_here s ls piece o = cond (is_some o) [] (tells s (logged_in s.role ls) (new_items ls piece))

no_run : (role : Role) → run_of role [] ≡ []
no_run GrpServer = refl
no_run SpinServer = refl
no_run GapLink = refl
no_run SpinLink = refl

-- ---- Pieces one after another
pub tells_none : (s : Setup) (ls : List (Event Lookups)) → IsReady s ls → TellsOf s ls [] []
unfolding told_here
tells_none s ls r = record {
  told = ap (told_here s ls []) r.open_is ∙ ap (λ (l : List Heard). tells s (logged_in s.role ls) l) (none_new s ls NoLookup) ∙ ap (λ (l : List Item). l ++ []) (no_run s.role);
  after = record { open_is = none_closed s ls NoLookup r.open_is; whole = ap rest_of (append-nil (fed_of ls)) ∙ r.whole };
}

pub tells_both : (s : Setup) (ls : List (Event Lookups)) (a b : List ℕ) (xs ys : List Item) → TellsOf s ls a xs → TellsOf s (Fed a NoLookup ∷ ls) b ys → TellsOf s ls (a ++ b) (xs ++ ys)
tells_both s ls a b xs ys h k = record {
  told = tells_once s ls a b ∙ ap (λ (l : List Item). l ++ link_tells s (Fed a NoLookup ∷ ls) b) h.told ∙ ap (λ (l : List Item). xs ++ l) k.told;
  after = record {
    open_is = sym (closes_once s ls a b NoLookup NoLookup NoLookup) ∙ k.after.open_is;
    whole = ap rest_of (sym (append_assoc (fed_of ls) a b)) ∙ k.after.whole;
  };
}

-- ---- One block
pub tells_one : (s : Setup) (ls : List (Event Lookups)) → IsReady s ls → (piece : List ℕ) (block : Block) (items : List Item) → IsBlock piece block → block.sequence ≡ 0
    → ((logged : Bool) (place : ℕ) → tells s logged (messages_from place block.raws) ≡ items)
    → ((logged : Bool) (place : ℕ) → first_cause s logged (messages_from place block.raws) ≡ None) → TellsOf s ls piece items
unfolding told_here
tells_one s ls r piece block items is zero tell calm = record {
  told = ap (told_here s ls piece) r.open_is
      ∙ ap (λ (l : List Heard). tells s (logged_in s.role ls) l) (new_is s ls piece block NoLookup r.whole is zero)
      ∙ tell _ _;
  after = record {
    open_is = closed_is s ls piece block NoLookup r.whole is zero r.open_is ∙ calm _ _;
    whole = rest_more s ls piece block NoLookup r.whole is zero;
  };
}
