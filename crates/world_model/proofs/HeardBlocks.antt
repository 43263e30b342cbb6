-- What a client's end hears, one block after another.
use Rattle.std.proofs.Common.{◌≡◌, ℕ, ◌+◌, Bool, true, false, ◌||◌, List, [], ◌∷◌, ◌++◌, nat_lt, refl, sym, ap, ◌∙◌, subst, arith, append_assoc, Some, take}
use Rattle.std.proofs.lemmas.List.{append-nil, take_more}
use Rattle.std.proofs.lemmas.Bool.Decides.{nat_tests}
use Rattle.std.proofs.lemmas.Option.{get_or_from_slice_get, slice_get_within}
use Rattle.std.specs.List.{flat_map, slice_get}
use Rattle.pitch_messages.specs.Room.{Roomy}
use Rattle.unit_packets.specs.Packing.{bytes_in}
use Rattle.unit_packets.specs.Blocks.{Block}
use Rattle.unit_packets.specs.Cutting.{blocks_of}
use Rattle.pitch_io.specs.declared.line.Line.{Line}
use Rattle.pitch_model.specs.History.{Entry}
use Rattle.heard_items.specs.Heard.{block_overflows, heard_block}
use Rattle.heard_items.specs.Changes.{block_change}
use Rattle.heard_items.specs.Datagrams.{block_messages}
use Rattle.heard_items.specs.layers.DatagramCounts.{overflows_in}
use Rattle.heard_items.specs.declared.change.Change.{Change}
use Rattle.client_end.specs.Came.{EndState, Heard, end_history, end_step}
use Rattle.client_end.specs.Parts.{EndIs}
use Rattle.sending_end.specs.Stands.{OfSending, SendingStands, WaitsStill}
use Rattle.sending_end.specs.declared.end.SendingEnd.{SendingEnd}
use Rattle.line_arbiter.specs.Noted.{HasNoted, Note}
use Rattle.line_arbiter.specs.declared.arbiter.Arbiter.{Arbiter}
use Rattle.world_model.specs.Ends.{client_setup}
use Rattle.world_model.specs.State.{State}
use Rattle.world_model.specs.Verbs.{hears, hears_block, note_of}
use Rattle.world_model.specs.declared.limits.Limits.{Limits}
use Rattle.world_model.specs.layers.Hearing.{HearsBlocks, Listens, overflow_in}

-- a sum is not 0 exactly where one of the two is not
some_of : (a b : ℕ) → nat_lt 0 (a + b) ≡ (nat_lt 0 a || nat_lt 0 b)
some_of a b = grind (arith, nat_tests)

or_assoc : (a b c : Bool) → (a || (b || c)) ≡ ((a || b) || c)
or_assoc true b c = refl
or_assoc false b c = refl

or_false : (x : Bool) → (x || false) ≡ x
or_false true = refl
or_false false = refl

-- what overflows with a block and others
pub overflow_step : (H : ℕ) (x : Block) (xs : List Block) (E : List Entry) → overflow_in H (x ∷ xs) E ≡ (nat_lt 0 (block_overflows H E x) || overflow_in H xs (heard_block x E))
overflow_step H x xs E = some_of (block_overflows H E x) (overflows_in H (heard_block x E) xs)

module _ (unit : ℕ) (line : Line) where
  -- ---- One after another
  hears_append : (limits : Limits) (xs ys : List Block) (s : State) → hears unit limits line (xs ++ ys) s ≡ hears unit limits line ys (hears unit limits line xs s)
  hears_append limits [] ys s = refl
  hears_append limits (x ∷ xs) ys s = hears_append limits xs ys (hears_block unit limits line x s)

  overflow_append : (limits : Limits) (xs ys : List Block) (s : State)
      → overflow_in limits.hold (xs ++ ys) s.client.heard ≡ (overflow_in limits.hold xs s.client.heard || overflow_in limits.hold ys (hears unit limits line xs s).client.heard)
  overflow_append limits [] ys s = refl
  overflow_append limits (x ∷ xs) ys s =
      let H : ℕ = limits.hold in
      let E : List Entry = s.client.heard in
      let last : Bool = overflow_in H ys (hears unit limits line (x ∷ xs) s).client.heard in
      overflow_step H x (xs ++ ys) E
      ∙ ap (λ (b : Bool). nat_lt 0 (block_overflows H E x) || b) (overflow_append limits xs ys (hears_block unit limits line x s))
      ∙ or_assoc (nat_lt 0 (block_overflows H E x)) (overflow_in H xs (heard_block x E)) last
      ∙ ap (λ (b : Bool). b || last) (sym (overflow_step H x xs E))

  pub hears_more : (one two three : SendingEnd) (a b c : Arbiter) (xs ys : List Block) (p q : Bool) → HearsBlocks unit line one two a b xs p → HearsBlocks unit line two three b c ys q → HearsBlocks unit line one three a c (xs ++ ys) (p || q)
  hears_more one two three a b c xs ys p q first second = record {
    listens = λ limits s l. subst (Listens unit limits three c) (sym (hears_append limits xs ys s)) (second.listens limits (hears unit limits line xs s) (first.listens limits s l));
    overflow_is = λ limits s l.
        ap (λ (x : Bool). x || q) (first.overflow_is limits s l)
        ∙ ap (λ (y : Bool). overflow_in limits.hold xs s.client.heard || y) (second.overflow_is limits (hears unit limits line xs s) (first.listens limits s l))
        ∙ sym (overflow_append limits xs ys s);
  }

  pub hears_one : (e e' : SendingEnd) (a b : Arbiter) (block : Block) (messages : ℕ) (change : Change) (overflow : Bool)
      → OfSending e (λ s before. SendingStands s e' (Heard block ∷ before)) → OfSending e (λ s before. change ≡ block_change s.hold (end_history s before) block) → WaitsStill e e'
      → ((notes : List Note) → HasNoted a notes → HasNoted b ((record { line = line; unit = unit; messages = messages; fresh = change.fresh }) ∷ notes))
      → messages ≡ block_messages block → overflow ≡ nat_lt 0 change.overflows → HearsBlocks unit line e e' a b (block ∷ []) overflow
  hears_one e e' a b block messages change overflow comes changes waits notes many over = record {
    listens = λ limits s l.
        let now = comes (client_setup unit limits) l.came (stood limits s l) in
        record {
          client = record {
            unit_is = now.unit_is;
            end_is = subst (λ (at : EndState). EndIs (client_setup unit limits) e'.end (end_step (client_setup unit limits) (Heard block) at)) (sym l.came_is) now.end_is;
            grp_up = waits.proxy ∙ l.client.grp_up;
            spin_up = waits.spin_server ∙ l.client.spin_up;
          };
          noted = subst (λ (ns : List Note). HasNoted b ns) (same limits s l) (notes s.notes l.noted);
          came = Heard block ∷ l.came;
          came_is = ap (end_step (client_setup unit limits) (Heard block)) l.came_is;
        };
    overflow_is = λ limits s l.
        over ∙ ap (λ (c : Change). nat_lt 0 c.overflows) (changed limits s l) ∙ sym (overflow_step limits.hold block [] s.client.heard ∙ or_false (nat_lt 0 (block_overflows limits.hold s.client.heard block)));
  }
    where
      stood : (limits : Limits) (s : State) (l : Listens unit limits e a s) → SendingStands (client_setup unit limits) e l.came
      stood limits s l = record { unit_is = l.client.unit_is; end_is = subst (EndIs (client_setup unit limits) e.end) l.came_is l.client.end_is }

      changed : (limits : Limits) (s : State) → Listens unit limits e a s → change ≡ block_change limits.hold s.client.heard block
      changed limits s l = changes (client_setup unit limits) l.came (stood limits s l) ∙ ap (λ (at : EndState). block_change limits.hold at.heard block) (sym l.came_is)

      same : (limits : Limits) (s : State) → Listens unit limits e a s
          → ◌≡◌ {A = List Note} ((record { line = line; unit = unit; messages = messages; fresh = change.fresh }) ∷ s.notes) (note_of unit limits.hold line block s.client.heard ∷ s.notes)
      same limits s l = λ i. (record { line = line; unit = unit; messages = many i; fresh = (changed limits s l i).fresh }) ∷ s.notes

-- ---- The blocks of datagrams
flat_one : (lists : List (Roomy ℕ)) (list : Roomy ℕ) → flat_map blocks_of (bytes_in (lists ++ list ∷ [])) ≡ flat_map blocks_of (bytes_in lists) ++ blocks_of list.items
flat_one [] list = append-nil (blocks_of list.items)
flat_one (l ∷ lists) list = ap (λ (bs : List Block). blocks_of l.items ++ bs) (flat_one lists list) ∙ sym (append_assoc (blocks_of l.items) (flat_map blocks_of (bytes_in lists)) (blocks_of list.items))

pub blocks_more : (lists : List (Roomy ℕ)) (i : ℕ) (list : Roomy ℕ) → slice_get lists i ≡ Some list
    → flat_map blocks_of (bytes_in (take (i + 1) lists)) ≡ flat_map blocks_of (bytes_in (take i lists)) ++ blocks_of list.items
blocks_more lists i list at =
    ap (λ (ls : List (Roomy ℕ)). flat_map blocks_of (bytes_in ls)) (take_more lists i list (slice_get_within lists i list at))
    ∙ ap (λ (l : Roomy ℕ). flat_map blocks_of (bytes_in (take i lists ++ l ∷ []))) (get_or_from_slice_get lists i list list at)
    ∙ flat_one (take i lists) list
