-- `sentences::put_words_line` meets its contract: the words and the line end. Assumes nothing.
use Rattle.text.specs.WroteLaws.{wrote_both}
use Rattle.sentences.specs.Sentences.{words_line}
use Rattle.sentences.proofs.put_words_line.Goals as goal

pub returns-clause-put : goal.returns-clause-put
unfolding words_line
returns-clause-put c = wrote_both c.put_words.ensures.put c.byte.ensures
