use Rattle.pitch_model.proofs.Recovering.{behind_with_proxy, behind_with_images}
use Rattle.pitch_model.proofs.laws.clients_behind_ask.Goals as goal

pub returns-clause-proxy : goal.returns-clause-proxy
returns-clause-proxy c = behind_with_proxy

pub returns-clause-image : goal.returns-clause-image
returns-clause-image c = behind_with_images
