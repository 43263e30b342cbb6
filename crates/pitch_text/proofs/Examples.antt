-- Worked examples of the grammar: what lines say, field by field.
use Rattle.std.proofs.Common.{◌≡◌, true, false, [], ◌∷◌, codes, Ok, Err, Some, None, refl}
use Rattle.pitch_fields.specs.declared.side.Side.TheVariants.{Buy, Sell}
use Rattle.pitch_io.specs.declared.line.Line.TheVariants.{A, Gap}
use Rattle.pitch_text.specs.declared.command.Command.TheVariants.{Time, Add, Exec, ExecAt, Reduce, Modify, Delete, Trade, Break, Clear, EndSession, Status}
use Rattle.pitch_text.specs.declared.verb.Session.TheVariants.{Grp, Spin}
use Rattle.pitch_text.specs.declared.verb.Verb.TheVariants as verbs
use Rattle.pitch_text.specs.CommandGrammar.{command, order_fields, time_rule, add_rule, exec_rule, execat_rule, reduce_rule, modify_rule, delete_rule, trade_rule, break_rule, clear_rule, end_rule, status_rule}
use Rattle.pitch_text.specs.ScheduleGrammar.{entry, verb, setup_rule, deliver_rule, up_rule, session_rule}
use Rattle.text_lines.specs.declared.fault.TextCause.TheVariants.{BadWord, MissingField}
use Rattle.text_lines.specs.Text.{said_of}

-- ---- Commands
an_add : said_of command (codes "add 7 S 100 IBM 10.05 hidden mpid=AB at=5")
    ≡ Ok (1, Add (record { id = 7; side = Sell; quantity = 100; symbol = codes "IBM     "; price = 100500; display = false; participant = codes "AB  " }) 5) ∷ []
unfolding said_of command add_rule order_fields
an_add = refl

an_add_of_no_options : said_of command (codes "add 7 B 1 GAMMADLT 0.0001")
    ≡ Ok (1, Add (record { id = 7; side = Buy; quantity = 1; symbol = codes "GAMMADLT"; price = 1; display = true; participant = codes "    " }) 0) ∷ []
unfolding said_of command add_rule order_fields
an_add_of_no_options = refl

an_execution : said_of command (codes "exec 1 2 3 at=4") ≡ Ok (1, Exec 1 2 3 4) ∷ []
unfolding said_of command exec_rule
an_execution = refl

an_execution_at_a_price : said_of command (codes "execat 1 2 3 4 0.5 at=6") ≡ Ok (1, ExecAt 1 2 3 4 5000 6) ∷ []
unfolding said_of command execat_rule
an_execution_at_a_price = refl

a_reduction : said_of command (codes "reduce 1 2 at=3") ≡ Ok (1, Reduce 1 2 3) ∷ []
unfolding said_of command reduce_rule
a_reduction = refl

a_modification : said_of command (codes "modify 1 2 3 hidden at=4") ≡ Ok (1, Modify 1 2 30000 false 4) ∷ []
unfolding said_of command modify_rule
a_modification = refl

a_trade : said_of command (codes "trade 1 B 2 IBM 3.25 4 at=5")
    ≡ Ok (1, Trade (record { id = 1; side = Buy; quantity = 2; symbol = codes "IBM     "; price = 32500; display = true; participant = codes "    " }) 4 5) ∷ []
unfolding said_of command trade_rule order_fields
a_trade = refl

-- the second line is skipped, and counted
the_others : said_of command (codes "time 34200\n# none\ndelete 1 at=2\nbreak 3 at=4\nclear at=5\nend at=6")
    ≡ Ok (1, Time 34200) ∷ Ok (3, Delete 1 2) ∷ Ok (4, Break 3 4) ∷ Ok (5, Clear 5) ∷ Ok (6, EndSession 6) ∷ []
unfolding said_of command time_rule delete_rule break_rule clear_rule end_rule
the_others = refl

a_word_is_unknown : said_of command (codes " fly 1") ≡ Err (record { line = 1; fault = record { column = 2; cause = BadWord } }) ∷ []
unfolding said_of command
a_word_is_unknown = refl

a_field_is_missing : said_of command (codes "reduce 1 ") ≡ Err (record { line = 1; fault = record { column = 9; cause = MissingField } }) ∷ []
unfolding said_of command reduce_rule
a_field_is_missing = refl

a_status : said_of command (codes "status IBM H 0 at=7") ≡ Ok (1, Status (codes "IBM     ") 0x48 0x30 7) ∷ []
unfolding said_of command status_rule
a_status = refl

a_halt_is_one_byte : said_of command (codes "status IBM HH 0") ≡ Err (record { line = 1; fault = record { column = 12; cause = BadWord } }) ∷ []
unfolding said_of command status_rule
a_halt_is_one_byte = refl

a_halt_is_no_backslash : said_of command (codes "status IBM \\ 0") ≡ Err (record { line = 1; fault = record { column = 12; cause = BadWord } }) ∷ []
unfolding said_of command status_rule
a_halt_is_no_backslash = refl

a_sho_is_missing : said_of command (codes "status IBM H") ≡ Err (record { line = 1; fault = record { column = 13; cause = MissingField } }) ∷ []
unfolding said_of command status_rule
a_sho_is_missing = refl

-- ---- Schedules
the_limits : said_of entry (codes "2 open hold=2 kept=3 second=4 minute=5 day=6") ≡ Ok (1, (2, verbs.Setup 2 3 4 5 6)) ∷ []
unfolding said_of entry verb setup_rule
the_limits = refl

-- those that are not said have their defaults
the_defaults : said_of entry (codes "1 open") ≡ Ok (1, (1, verbs.Setup 4096 65536 10 100 10000)) ∷ []
unfolding said_of entry verb setup_rule
the_defaults = refl

deliveries : said_of entry (codes "64 a 7\n1 g rest") ≡ Ok (1, (64, verbs.Deliver A 7)) ∷ Ok (2, (1, verbs.Rest Gap)) ∷ []
unfolding said_of entry verb deliver_rule
deliveries = refl

carried : said_of entry (codes "1 grp up 14\n1 spin up all") ≡ Ok (1, (1, verbs.Up Grp (Some 14))) ∷ Ok (2, (1, verbs.Up Spin None)) ∷ []
unfolding said_of entry verb session_rule up_rule
carried = refl
