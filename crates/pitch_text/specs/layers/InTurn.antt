-- Optional fields read one after the other, each where it stands next: how the code reads them. The
-- readers' contracts speak of `Options` alone; this page is what stands between.
use Rattle.std.specs.Prelude.{ℕ, Bool, false, is_some, List, Option, None, codes}
use Rattle.text_lines.specs.declared.fault.TextCause.TheVariants.{BadNumber, BadSymbol}
use Rattle.pitch_text.specs.declared.options.Limits.{Limits}
use Rattle.pitch_text.specs.declared.options.OrderOptions.{OrderOptions}
use Rattle.text_lines.specs.Kinds.{number_of, offset_of, participant_of}
use Rattle.text_lines.specs.layers.Next.{word_next, value_next, end_next}
use Rattle.text_lines.specs.Reading.{LineReading, ◌>>=◌, gives}

-- the optional fields of commands, where they stand next
abbrev pub hidden_next : LineReading Bool
hidden_next = word_next (codes "hidden")

abbrev pub participant_next : LineReading (Option (List ℕ))
participant_next = value_next (codes "mpid=") participant_of BadSymbol

abbrev pub offset_next : LineReading (Option ℕ)
offset_next = value_next (codes "at=") offset_of BadNumber

-- `[at=N]`
unfoldable pub offset_in_turn : LineReading OrderOptions
offset_in_turn = do
  offset ← offset_next
  end ← end_next (is_some offset)
  gives (record { hidden = false; participant = None; offset = offset })

-- `[hidden] [at=N]`
unfoldable pub display_in_turn : LineReading OrderOptions
display_in_turn = do
  hidden ← hidden_next
  offset ← offset_next
  end ← end_next (is_some offset)
  gives (record { hidden = hidden; participant = None; offset = offset })

-- `[hidden] [mpid=NAME] [at=N]`
unfoldable pub order_in_turn : LineReading OrderOptions
order_in_turn = do
  hidden ← hidden_next
  participant ← participant_next
  offset ← offset_next
  end ← end_next (is_some offset)
  gives (record { hidden = hidden; participant = participant; offset = offset })

-- a limit, where it stands next
abbrev pub limit_next : List ℕ → ℕ → LineReading (Option ℕ)
limit_next name most = value_next name (number_of 1 most) BadNumber

-- `[hold=H] [kept=K] [second=A] [minute=B] [day=C]`
unfoldable pub limits_in_turn : LineReading Limits
limits_in_turn = do
  hold ← limit_next (codes "hold=") 65536
  kept ← limit_next (codes "kept=") 65536
  second ← limit_next (codes "second=") 1000000
  minute ← limit_next (codes "minute=") 1000000
  day ← limit_next (codes "day=") 1000000
  end ← end_next (is_some day)
  gives (record { hold = hold; kept = kept; second = second; minute = minute; day = day })
