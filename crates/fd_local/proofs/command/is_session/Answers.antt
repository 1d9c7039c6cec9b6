use Rattle.std.proofs.Common.{codes}
use Rattle.fd_local.proofs.Words.{one_word, is_only_word}
use Rattle.fd_local.proofs.command.is_session.Goals as goal

pub returns-in-len1 : goal.returns-in-len1
returns-in-len1 c =
    let only = one_word c.args.words.now c.as_slice.result.now c.word-item.result c.as_str.result.now c.as_slice.ensures c.in-len1.len_at_least c.in-len1.len_below c.word-item.is c.as_str.ensures in
    is_only_word c.args.words.now c.eq.result c.as_str.result.now (codes "session") only c.eq.ensures
