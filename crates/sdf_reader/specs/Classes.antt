-- What a token is to the grammar: a mark, a text, or a word with the keyword that it is, if any; or what no text of the grammar has.
use Rattle.std.specs.Prelude.{Option}
use Rattle.sdf_reader.specs.declared.words.Keyword.{Keyword}

pub data Class : Type 0 where
  Open : Class
  Close : Class
  Text : Class
  Word : Option Keyword → Class
  Broken : Class
