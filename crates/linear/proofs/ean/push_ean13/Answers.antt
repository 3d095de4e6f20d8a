use Rattle.std.proofs.Common.{◌≡◌, ◌<◌, ◌++◌, ℕ, List, [], ◌∷◌, take, drop, get_or, refl, ap, ◌∙◌, arith}
use Rattle.linear.specs.Digits.{digit_value}
use Rattle.linear.specs.Ean.{symbol, ean13_row}
use Rattle.linear.proofs.Laws.TableLaws.{sets_of_left, sets_of_left-left_sets}
use Rattle.linear.proofs.ean.push_ean13.Goals as goal

-- the halves that the code cuts, and the sets that it looks up
symbol_is : (first : ℕ) (rest left right : List ℕ) (i : ℕ) → i ≡ digit_value first → digit_value first < 10
    → left ≡ take 6 rest → right ≡ drop 6 rest
    → symbol (get_or sets_of_left i []) left right ≡ ean13_row (first ∷ rest)
symbol_is first rest left right i e below l r =
    rw (l, r, sets_of_left-left_sets i (digit_value first) [] e below) refl

pub returns : goal.returns
unfolding sets_of_left
returns c = record {
  items = c.push_symbol.ensures.items ∙ ap (λ row. c.args.row.now.items ++ row) (symbol_is c.args.first c.args.rest.now
      _ _ c.from.result c.from.ensures (omega (arith, c.requires.first)) c.split_at.ensures.front
      c.split_at.ensures.back);
  len = c.push_symbol.ensures.len;
}
