use Rattle.std.proofs.Common.{◌≡◌, ◌+◌, ℕ, List, drop, ap, ◌∙◌, sym}
use Rattle.std.proofs.lemmas.List.{drop-drop}
use Rattle.unit_packets.specs.Packing.{bytes_in}
use Rattle.spin_server.specs.Serving.{Spin}
use Rattle.spin_server.proofs.spin.Spin.advance.Goals as goal

pub returns-then-self-len : goal.returns-then-self-len
returns-then-self-len c =
    let all : List (List ℕ) = bytes_in c.self.inside.datagrams.items in
    let now : Spin = c.args.self.now in
    let is : drop 1 now.left ≡ drop (c.self.inside.sent + 1) all =
    ap (λ (s : Spin). drop 1 s.left) (sym c.self.view_is) ∙ drop-drop 1 c.self.inside.sent all in
    ap (λ (n : ℕ). record { sequence = n; left = drop (c.self.inside.sent + 1) all }) (ap (λ (s : Spin). s.sequence) c.self.view_is)
    ∙ ap (λ (l : List (List ℕ)). record { sequence = now.sequence; left = l }) (sym is)
