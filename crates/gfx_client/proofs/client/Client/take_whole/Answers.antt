use Rattle.std.proofs.Common.{rules, sym, ◌∙◌}
use Rattle.gfx_client.proofs.Bringing.{brought_taken}
use Rattle.gfx_client.proofs.Playing.{fed_whole, stands_taken}
use Rattle.gfx_client.specs.Client.{is_living}
use Rattle.gfx_client.specs.Replies.{stream_of}
use Rattle.gfx_client.proofs.client.Client.take_whole.Goals as goal

pub returns-clause-stands : goal.returns-clause-stands
returns-clause-stands c = λ origin bytes s.
    stands_taken c.args.self.now _ bytes (stream_of (is_living c.args.self.now) c.args.message.now)
    (fed_whole c.args.self.now c.feed_whole.new.self c.args.message.now (search rules) (sym c.passes_over.ensures ∙ c.if-passes_over.false)) s

pub returns-clause-brought : goal.returns-clause-brought
returns-clause-brought c = λ origin bytes all s b.
    brought_taken origin c.args.self.now _ bytes (stream_of (is_living c.args.self.now) c.args.message.now) all
    (fed_whole c.args.self.now c.feed_whole.new.self c.args.message.now (search rules) (sym c.passes_over.ensures ∙ c.if-passes_over.false)) s b
