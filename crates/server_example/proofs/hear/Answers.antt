use Rattle.server_example.proofs.hear.Goals as goal

pub returns-in-Ok : goal.returns-in-Ok
returns-in-Ok c = (c.requires.0, c.take.ensures.is c.requires.0 c.requires.1)

pub returns-in-Err : goal.returns-in-Err
returns-in-Err c = (c.requires.0, c.take.ensures.is c.requires.0 c.requires.1)
