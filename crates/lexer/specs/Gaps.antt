-- Whether bytes that may be skipped begin inside a comment.
use Rattle.std.specs.Prelude.{Bool, true, false}
use Rattle.lexer.specs.declared.bytes.Gap.{Gap}
use Rattle.lexer.specs.declared.bytes.Gap.TheVariants.{Blanks, Comment}

abbrev pub in_comment : Gap → Bool
in_comment Blanks = false
in_comment Comment = true
