use Rattle.gfx_client.proofs.ReplyLemmas.{hello_read, acknowledgement_read}
use Rattle.gfx_client.proofs.laws.what_a_client_writes_is_read.Goals as goal

pub returns-clause-hello : goal.returns-clause-hello
returns-clause-hello c = hello_read

pub returns-clause-acknowledgement : goal.returns-clause-acknowledgement
returns-clause-acknowledgement c = acknowledgement_read
