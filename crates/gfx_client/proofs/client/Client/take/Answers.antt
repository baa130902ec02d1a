use Rattle.std.proofs.Common.{rules}
use Rattle.gfx_client.proofs.Bringing.{brought_taken}
use Rattle.gfx_client.proofs.Playing.{stands_taken}
use Rattle.gfx_client.proofs.client.Client.take.Goals as goal

pub returns-clause-stands : goal.returns-clause-stands
returns-clause-stands c = λ origin bytes s. stands_taken c.args.self.now _ bytes c.args.piece.now (search rules) s

pub returns-clause-brought : goal.returns-clause-brought
returns-clause-brought c = λ origin bytes all s b. brought_taken origin c.args.self.now _ bytes c.args.piece.now all (search rules) s b
