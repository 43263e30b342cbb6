-- Which messages have the terms of an order.
use Rattle.std.specs.Prelude.{Bool, true, false}
use Rattle.pitch_messages.specs.declared.message.Message.{Message}
use Rattle.pitch_messages.specs.declared.message.Message.TheVariants as messages

-- adds and trades have terms
abbrev pub has_terms : Message → Bool
has_terms (messages.AddLong offset id side quantity symbol price flags) = true
has_terms (messages.AddShort offset id side quantity symbol price flags) = true
has_terms (messages.AddExpanded offset id side quantity symbol price flags participant) = true
has_terms (messages.TradeLong offset id side quantity symbol price execution) = true
has_terms (messages.TradeShort offset id side quantity symbol price execution) = true
has_terms (messages.TradeExpanded offset id side quantity symbol price execution) = true
has_terms message = false
