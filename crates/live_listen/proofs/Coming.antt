-- What came by one datagram more.
use Rattle.std.proofs.Common.{◌≡◌, ℕ, List, [], ◌∷◌, ◌++◌, ap, ◌∙◌}
use Rattle.std.specs.List.{flat_map}
use Rattle.std.proofs.lemmas.List.{append-nil}
use Rattle.std.proofs.lemmas.Grind.{flat_map-append}
use Rattle.unit_packets.specs.Blocks.{Block}
use Rattle.unit_packets.specs.Cutting.{blocks_of}
use Rattle.live_listen.specs.Heard.{heard_in, blocks_heard}

pub more_heard : (units : List ℕ) (datagrams : List (List ℕ)) (datagram : List ℕ) → blocks_heard units (datagrams ++ datagram ∷ []) ≡ blocks_heard units datagrams ++ heard_in units datagram
more_heard units datagrams datagram =
    flat_map-append (heard_in units) datagrams (datagram ∷ [])
    ∙ ap (λ (bs : List Block). blocks_heard units datagrams ++ bs) (append-nil (heard_in units datagram))

pub more_came : (datagrams : List (List ℕ)) (datagram : List ℕ) → flat_map blocks_of (datagrams ++ datagram ∷ []) ≡ flat_map blocks_of datagrams ++ blocks_of datagram
more_came datagrams datagram =
    flat_map-append blocks_of datagrams (datagram ∷ [])
    ∙ ap (λ (bs : List Block). flat_map blocks_of datagrams ++ bs) (append-nil (blocks_of datagram))
