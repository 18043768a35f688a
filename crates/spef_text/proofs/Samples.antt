-- What the definitions say of single tokens.
use Rattle.std.proofs.Common.{◌≡◌, true, Some, None, refl, codes}
use Rattle.token_texts.specs.Comments.{pair_place}
use Rattle.token_texts.specs.Runs.{escaped_run_length}
use Rattle.spef_text.specs.Tokens.{cut_at, is_broken, IsToken}
use Rattle.spef_text.specs.Classes.{word_of, is_ref, is_name, is_value}
use Rattle.delay_units.specs.Places.{is_literal}
use Rattle.spef_text.specs.declared.words.Word.TheVariants.{End}

end_is : word_of (codes "*END") ≡ Some End
unfolding word_of
end_is = refl

none_is : word_of (codes "*12:3") ≡ None
unfolding word_of
none_is = refl

end_is_token : IsToken (codes "*END")
unfolding cut_at escaped_run_length
end_is_token = refl

one_is : is_value (codes "1:-2.5e-3:.3") ≡ true
unfolding is_value is_literal
one_is = refl

ref_is : is_ref 58 (codes "*12:3") ≡ true
unfolding is_ref
ref_is = refl

ref2_is : is_ref 58 (codes "a/b:Z") ≡ true
unfolding is_ref is_name is_value is_literal is_broken cut_at
ref2_is = refl

broken_is : is_broken (codes "/*a") ≡ true
unfolding is_broken cut_at pair_place
broken_is = refl
