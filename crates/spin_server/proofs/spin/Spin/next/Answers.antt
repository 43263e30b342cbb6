use Rattle.std.proofs.Common.{◌+◌, ◌∷◌, ℕ, List, drop, ap, ◌∙◌, sym}
use Rattle.std.specs.Option.{option_copied}
use Rattle.pitch_messages.specs.Room.{Roomy}
use Rattle.unit_packets.specs.Packing.{bytes_in}
use Rattle.spin_server.specs.Serving.{Spin}
use Rattle.spin_server.proofs.Serves.{left_some, left_none}
use Rattle.spin_server.proofs.spin.Spin.next.Goals as goal

pub returns-in-Some : goal.returns-in-Some
returns-in-Some c =
    let all : List (Roomy ℕ) = c.self.inside.datagrams.items in
    let is = sym c.get.ensures ∙ ap option_copied c.in-Some.is in (
      drop (c.self.inside.sent + 1) (bytes_in all),
      sym (ap (λ (s : Spin). s.left) c.self.view_is) ∙ left_some (λ (l : Roomy ℕ). l.items) all c.self.inside.sent c.in-Some.datagram.now is
          ∙ ap (λ (b : List ℕ). b ∷ drop (c.self.inside.sent + 1) (bytes_in all)) (sym c.bytes.ensures),
    )

pub returns-in-None : goal.returns-in-None
returns-in-None c =
    let is = sym c.get.ensures ∙ ap option_copied c.in-None.is in
    sym (ap (λ (s : Spin). s.left) c.self.view_is) ∙ left_none (λ (l : Roomy ℕ). l.items) c.self.inside.datagrams.items c.self.inside.sent is
