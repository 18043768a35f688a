-- How the code has a word of a line.
use Rattle.std.specs.Prelude.{ℕ, List, [], ◌++◌, codes, decimal, flat_map}
use Rattle.std.specs.Fmt.{signed_decimal}
use Rattle.refusals.specs.declared.words.Word.{Word}
use Rattle.refusals.specs.declared.words.Word.TheVariants.{Nothing, Text, Number, Grains, Node, Pin, Nets}
use Rattle.refusals.specs.RefusalLine.{node_text, pin_text, words_text}

-- what a word writes, behind a space
abbrev pub word_line : Word → List ℕ
word_line Nothing = []
word_line (Text bytes) = codes " " ++ bytes.now
word_line (Number number) = codes " " ++ decimal number
word_line (Grains grains) = codes " " ++ signed_decimal grains
word_line (Node node) = codes " " ++ node_text node.now.head node.now.tail
word_line (Pin instance pin) = codes " " ++ pin_text instance.now pin.now
word_line (Nets nets) = words_text nets.now

-- what words write
abbrev pub line_of_words : List Word → List ℕ
line_of_words words = flat_map word_line words
