use Rattle.std.proofs.Common.{◌≡◌, ◌==◌, ◌++◌, ◌∷◌, List, ℕ, Option, Some, None, subst, sym}
use Rattle.std.specs.Borrow.{Bor}
use Rattle.std.specs.Prelude.{IfNone, IfSome, is_some}
use Rattle.std.specs.List.{after_first, before_first, list_any}
use Rattle.std.proofs.lemmas.Option.{IfSome_then}
use Rattle.labelcore.specs.Lines.{HasNoLF, LF}
use Rattle.labelcore.proofs.PositionLaws.{cut_at_first, none_before}
use Rattle.labelcore.proofs.split.split_line.Goals as goal

cut_at_lf : (bytes : List ℕ) (r : Option (Bor (List ℕ) × Bor (List ℕ))) → is_some r ≡ list_any (λ b. b == LF) bytes
    → IfSome r (λ cut. cut.0.now ≡ before_first (λ b. b == LF) bytes)
    → IfSome r (λ cut. cut.1.now ≡ after_first (λ b. b == LF) bytes)
    → IfSome r (λ cut. bytes ≡ cut.0.now ++ LF ∷ cut.1.now)
cut_at_lf bytes None found before after = tt
cut_at_lf bytes (Some cut) found before after = rw (before, after) (cut_at_first LF bytes (sym found))

all_open : (bytes : List ℕ) (r : Option (Bor (List ℕ) × Bor (List ℕ)))
    → IfNone r (before_first (λ b. b == LF) bytes ≡ bytes) → IfNone r (HasNoLF bytes)
all_open bytes None before = subst HasNoLF before (none_before LF bytes)
all_open bytes (Some cut) before = tt

pub returns-clause-cut : goal.returns-clause-cut
returns-clause-cut c = let h = c.split_once.ensures in
    cut_at_lf c.args.bytes.now c.split_once.result h.found h.before h.after

pub returns-clause-line : goal.returns-clause-line
returns-clause-line c = IfSome_then c.split_once.result c.split_once.ensures.before
    (λ cut before. subst HasNoLF (sym before) (none_before LF c.args.bytes.now))

pub returns-clause-open : goal.returns-clause-open
returns-clause-open c = all_open c.args.bytes.now c.split_once.result c.split_once.ensures.all_before
