use Rattle.gfx_import.proofs.FileLemmas.{puts_file}
use Rattle.gfx_import.proofs.file.put_file.Goals as goal

pub returns-clause-put : goal.returns-clause-put
returns-clause-put c =
    puts_file c.put_entries.result c.args.kept.now c.args.out.now c.put.new.out c.put-2.new.out c.put_entries.new.out c.len-count.result c.len-count.ensures.len
    c.in_ok-put.ensures.ok c.in_ok-put-2.ensures.ok c.put_entries.ensures
