-- Worked examples of `show`, computed by the definitions.
use Rattle.std.proofs.Common.{◌≡◌, ℕ, ◌++◌, List, [], ◌∷◌, refl, codes}
use Rattle.std.specs.Fmt.{digits}
use Rattle.unit_packets.specs.Blocks.{Block}
use Rattle.pitch_fields.specs.Name.{name_shown}
use Rattle.pitch_fields.specs.declared.side.Side.TheVariants.{Buy, Sell}
use Rattle.pitch_messages.specs.Reading.{reads}
use Rattle.pitch_messages.specs.declared.message.Message.TheVariants as messages
use Rattle.feed_lines.specs.Show.{execution_text, extra_texts, flags_text, hex_field, id_text, kind_text, message_line, message_lines, message_text, message_texts, number_field, offset_text, price_field, price_text, quantity_text, said_texts, show_text, shown_head, side_text, symbol_text, text_field, word}
use Rattle.feed_lines.specs.Texts.{texts_after}

abbrev block : ℕ → List (List ℕ) → Block
block sequence raws = record { unit = 1; sequence = sequence; raws = raws }

clock_and_unknown : show_text (block 1 ((0x06 ∷ 0x20 ∷ 0x98 ∷ 0x85 ∷ 0 ∷ 0 ∷ []) ∷ (0x03 ∷ 0x99 ∷ 0x07 ∷ []) ∷ []) ∷ [])
    ≡ codes "block 1 unit 1 first 1 count 2\n" ++ codes "1 time second=34200\n" ++ codes "2 other kind=99 length=3\n"
unfolding texts_after shown_head message_lines message_line message_texts said_texts extra_texts reads word kind_text hex_field number_field digits
clock_and_unknown = refl

short_add :
    message_line 1 (0x1a ∷ 0x22 ∷ 0 ∷ 0 ∷ 0 ∷ 0 ∷ 1 ∷ 0 ∷ 0 ∷ 0 ∷ 0 ∷ 0 ∷ 0 ∷ 0 ∷ 0x42 ∷ 0x64 ∷ 0 ∷ 0x49 ∷ 0x42 ∷ 0x4d ∷ 0x20 ∷ 0x20 ∷ 0x20 ∷ 0xff ∷ 0xff ∷ 1 ∷ [])
    ≡ codes "1 add-short offset=0 id=1 side=B quantity=100 symbol=IBM price=655.3500 flags=01\n"
unfolding message_line message_texts said_texts extra_texts reads word offset_text id_text side_text quantity_text symbol_text price_text flags_text text_field price_field hex_field number_field name_shown digits
short_add = refl

-- two bytes more than its type needs
grown_deletion : message_line 0 (0x10 ∷ 0x29 ∷ 7 ∷ 0 ∷ 0 ∷ 0 ∷ 5 ∷ 0 ∷ 0 ∷ 0 ∷ 0 ∷ 0 ∷ 0 ∷ 0 ∷ 0xaa ∷ 0xbb ∷ []) ≡ codes "- delete offset=7 id=5 extra=2\n"
unfolding message_line message_texts said_texts extra_texts reads word offset_text id_text number_field digits
grown_deletion = refl

short_clock : message_line 9 (0x05 ∷ 0x20 ∷ 0 ∷ 0 ∷ 0 ∷ []) ≡ codes "9 short kind=20 needs=6 has=5\n"
unfolding message_line message_texts said_texts extra_texts reads word kind_text hex_field number_field digits
short_clock = refl

add_without_side :
    message_line 3 (0x1a ∷ 0x22 ∷ 0 ∷ 0 ∷ 0 ∷ 0 ∷ 1 ∷ 0 ∷ 0 ∷ 0 ∷ 0 ∷ 0 ∷ 0 ∷ 0 ∷ 0x5a ∷ 0x64 ∷ 0 ∷ 0x49 ∷ 0x42 ∷ 0x4d ∷ 0x20 ∷ 0x20 ∷ 0x20 ∷ 0xff ∷ 0xff ∷ 1 ∷ [])
    ≡ codes "3 bad-side kind=22 byte=5a\n"
unfolding message_line message_texts said_texts extra_texts reads word kind_text hex_field number_field digits
add_without_side = refl

trading_status :
    message_line 5 (0x12 ∷ 0x31 ∷ 0 ∷ 0 ∷ 0 ∷ 0 ∷ 0x49 ∷ 0x42 ∷ 0x4d ∷ 0x20 ∷ 0x20 ∷ 0x20 ∷ 0x20 ∷ 0x20 ∷ 0x48 ∷ 0x30 ∷ 0x20 ∷ 0x20 ∷ [])
    ≡ codes "5 trading-status offset=0 symbol=IBM halt=H sho=0\n"
unfolding message_line message_texts said_texts extra_texts reads word offset_text symbol_text text_field number_field name_shown digits
trading_status = refl

-- ---- Each other type: its word, and its fields in the order of the table
long_add_text : message_text (messages.AddLong 0 5 Buy 100 (codes "IBM   ") 100000 1) ≡ codes "add-long offset=0 id=5 side=B quantity=100 symbol=IBM price=10.0000 flags=01"
unfolding message_texts word offset_text id_text side_text quantity_text symbol_text price_text flags_text text_field price_field hex_field number_field name_shown digits
long_add_text = refl

expanded_add_text : message_text (messages.AddExpanded 7 5 Sell 1 (codes "A.B     ") 5 0 (codes "MM  ")) ≡ codes "add-expanded offset=7 id=5 side=S quantity=1 symbol=A.B price=0.0005 flags=00 participant=MM"
unfolding message_texts word offset_text id_text side_text quantity_text symbol_text price_text flags_text text_field price_field hex_field number_field name_shown digits
expanded_add_text = refl

execution_alone_text : message_text (messages.Executed 1 5 3 9) ≡ codes "executed offset=1 id=5 executed=3 execution=9"
unfolding message_texts word offset_text id_text execution_text number_field digits
execution_alone_text = refl

execution_at_a_price_text : message_text (messages.ExecutedAt 1 5 3 2 9 99900) ≡ codes "executed-at offset=1 id=5 executed=3 remaining=2 execution=9 price=9.9900"
unfolding message_texts word offset_text id_text price_text execution_text price_field number_field digits
execution_at_a_price_text = refl

long_reduction_text : message_text (messages.ReduceLong 0 5 70000) ≡ codes "reduce-long offset=0 id=5 quantity=70000"
unfolding message_texts word offset_text id_text quantity_text number_field digits
long_reduction_text = refl

short_reduction_text : message_text (messages.ReduceShort 0 5 7) ≡ codes "reduce-short offset=0 id=5 quantity=7"
unfolding message_texts word offset_text id_text quantity_text number_field digits
short_reduction_text = refl

long_modification_text : message_text (messages.ModifyLong 0 5 7 110001 0) ≡ codes "modify-long offset=0 id=5 quantity=7 price=11.0001 flags=00"
unfolding message_texts word offset_text id_text quantity_text price_text flags_text price_field hex_field number_field digits
long_modification_text = refl

short_modification_text : message_text (messages.ModifyShort 0 5 7 1100 1) ≡ codes "modify-short offset=0 id=5 quantity=7 price=11.0000 flags=01"
unfolding message_texts word offset_text id_text quantity_text price_text flags_text price_field hex_field number_field digits
short_modification_text = refl

long_trade_text : message_text (messages.TradeLong 0 5 Buy 100 (codes "IBM   ") 100000 9) ≡ codes "trade-long offset=0 id=5 side=B quantity=100 symbol=IBM price=10.0000 execution=9"
unfolding message_texts word offset_text id_text side_text quantity_text symbol_text price_text execution_text text_field price_field number_field name_shown digits
long_trade_text = refl

short_trade_text : message_text (messages.TradeShort 0 5 Sell 100 (codes "IBM   ") 1000 9) ≡ codes "trade-short offset=0 id=5 side=S quantity=100 symbol=IBM price=10.0000 execution=9"
unfolding message_texts word offset_text id_text side_text quantity_text symbol_text price_text execution_text text_field price_field number_field name_shown digits
short_trade_text = refl

expanded_trade_text : message_text (messages.TradeExpanded 0 5 Buy 100 (codes "GAMMADLT") 100000 9) ≡ codes "trade-expanded offset=0 id=5 side=B quantity=100 symbol=GAMMADLT price=10.0000 execution=9"
unfolding message_texts word offset_text id_text side_text quantity_text symbol_text price_text execution_text text_field price_field number_field name_shown digits
expanded_trade_text = refl

broken_trade_text : message_text (messages.TradeBreak 3 9) ≡ codes "trade-break offset=3 execution=9"
unfolding message_texts word offset_text execution_text number_field digits
broken_trade_text = refl

end_text : message_text (messages.EndOfSession 3) ≡ codes "end offset=3"
unfolding message_texts word offset_text number_field digits
end_text = refl

-- halt and sho are each shown as a symbol of one byte is, a space too
status_text_of_odd_bytes : message_text (messages.TradingStatus 7 (codes "A.B     ") 32 255) ≡ codes "trading-status offset=7 symbol=A.B halt=\\x20 sho=\\xff"
unfolding message_texts word offset_text symbol_text text_field number_field name_shown digits
status_text_of_odd_bytes = refl

clear_text : message_text (messages.UnitClear 3) ≡ codes "unit-clear offset=3"
unfolding message_texts word offset_text number_field digits
clear_text = refl
