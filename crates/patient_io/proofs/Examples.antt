-- What the system's numbers say of a call: EINTR and EAGAIN are no faults, EPIPE is one.
use Rattle.std.proofs.Common.{◌≡◌, refl, pos}
use Rattle.std.specs.IoError.{os_error_kind}
use Rattle.std.specs.declared.io.ErrorKind.TheVariants.{BrokenPipe, Interrupted, WouldBlock}

broken_off : os_error_kind (pos 4) ≡ Interrupted
unfolding os_error_kind
broken_off = refl

not_ready : os_error_kind (pos 11) ≡ WouldBlock
unfolding os_error_kind
not_ready = refl

without_a_reader : os_error_kind (pos 32) ≡ BrokenPipe
unfolding os_error_kind
without_a_reader = refl
