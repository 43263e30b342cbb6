-- Worked examples: what is said of a long input and of memory, and the numbers of the statuses.
use Rattle.std.proofs.Common.{◌≡◌, ◌++◌, refl, codes}
use Rattle.std.specs.Prelude.{decimal}
use Rattle.std.specs.Fmt.{digits}
use Rattle.pitch_fields.specs.Limits.{text_limit}
use Rattle.stream_print.specs.Inputs.{stream_limit}
use Rattle.stream_print.specs.declared.failure.StreamTrouble.TheVariants.{TooLong}
use Rattle.pitch_tool.specs.Program.{memory_text, trouble_text}
use Rattle.pitch_tool.specs.Statuses.{status_number}
use Rattle.pitch_tool.specs.declared.failure.Trouble.TheVariants.{Blocks, LongText}
use Rattle.pitch_tool.specs.declared.status.ExitStatus.TheVariants.{Done, Usage, BadInput, ReadFault, WriteFault, OutOfMemory, NetFault}

-- the text names the limit
long_stream : trouble_text (Blocks TooLong) ≡ codes "pitch: input is longer than " ++ (decimal stream_limit ++ codes " bytes\n")
unfolding digits
long_stream = refl

two_to_the_30 : trouble_text (Blocks TooLong) ≡ codes "pitch: input is longer than 1073741824 bytes\n"
unfolding digits
two_to_the_30 = refl

long_text : trouble_text LongText ≡ codes "pitch: input is longer than " ++ (decimal text_limit ++ codes " bytes\n")
unfolding digits
long_text = refl

two_to_the_26 : trouble_text LongText ≡ codes "pitch: input is longer than 67108864 bytes\n"
unfolding digits
two_to_the_26 = refl

no_memory : memory_text ≡ codes "pitch: out of memory\n"
no_memory = refl

-- ---- Statuses
done_is_0 : status_number Done ≡ 0
done_is_0 = refl

usage_is_2 : status_number Usage ≡ 2
usage_is_2 = refl

bad_input_is_3 : status_number BadInput ≡ 3
bad_input_is_3 = refl

read_fault_is_4 : status_number ReadFault ≡ 4
read_fault_is_4 = refl

write_fault_is_5 : status_number WriteFault ≡ 5
write_fault_is_5 = refl

out_of_memory_is_6 : status_number OutOfMemory ≡ 6
out_of_memory_is_6 = refl

net_fault_is_7 : status_number NetFault ≡ 7
net_fault_is_7 = refl
