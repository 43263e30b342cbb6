-- What is no block, and prints nothing.
use Rattle.std.proofs.Common.{refl}
use Rattle.client_end.specs.Came.{Second}
use Rattle.sending_end.specs.Waiting.{ended, made}
use Rattle.sending_end.specs.declared.session.Session.{Session}
use Rattle.sending_end.specs.declared.session.Session.TheVariants.{Proxy, SpinServer}
use Rattle.live_units.proofs.Routing.{IsQuiet}

pub quiet_made : (session : Session) → IsQuiet (made session)
quiet_made Proxy = record { no_block = refl; no_text = λ s k before. refl }
quiet_made SpinServer = record { no_block = refl; no_text = λ s k before. refl }

pub quiet_ended : (session : Session) → IsQuiet (ended session)
quiet_ended Proxy = record { no_block = refl; no_text = λ s k before. refl }
quiet_ended SpinServer = record { no_block = refl; no_text = λ s k before. refl }

pub quiet_second : IsQuiet Second
quiet_second = record { no_block = refl; no_text = λ s k before. refl }
