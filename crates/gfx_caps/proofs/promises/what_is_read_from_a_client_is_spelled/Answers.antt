use Rattle.gfx_caps.proofs.Laws.{client_of-read}
use Rattle.gfx_caps.proofs.promises.what_is_read_from_a_client_is_spelled.Goals as goal

pub returns : goal.returns
returns c = client_of-read
