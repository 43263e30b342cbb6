-- What a publisher has told, one request more.
use Rattle.std.proofs.Common.{◌≡◌, List, [], ◌∷◌, ◌++◌, sym}
use Rattle.std.proofs.lemmas.List.{flat_map_more}
use Rattle.unit_threads.specs.layers.Telling.{told_by, told_in}
use Rattle.unit_threads.specs.declared.ends.Request.{Request}

pub told_more : {J R : Type 0} (requests : List (Request J R)) (request : Request J R) → told_in (requests ++ request ∷ []) ≡ told_in requests ++ told_by request
told_more requests request = sym (flat_map_more told_by [] requests request)
