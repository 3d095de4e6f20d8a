-- What a sink that buffers bytes needs for its laws.
use Rattle.std.specs.Prelude.{◌≡◌, ℕ, List, [], ◌++◌}
use Rattle.std.proofs.Common.{sym, ap, ◌∙◌, append_assoc}
use Rattle.std.proofs.lemmas.List.{append-nil}
use Rattle.device.specs.Passing.{PassesOn}

pub PassesOn_none : {S : Type 0} (took : S → S → List ℕ → Type 0) (s : S) (held : List ℕ) → took s s []
    → PassesOn took s s held held []
PassesOn_none took s held none = record { sent = []; taken = none; cut = append-nil held }

joined_cut : (a b c m n sent more : List ℕ) → a ++ m ≡ sent ++ b → b ++ n ≡ more ++ c
    → a ++ (m ++ n) ≡ (sent ++ more) ++ c
joined_cut a b c m n sent more e f =
    sym (append_assoc a m n)
    ∙ (ap (λ (xs : List ℕ). xs ++ n) e
    ∙ (append_assoc sent b n ∙ (ap (λ (xs : List ℕ). sent ++ xs) f ∙ sym (append_assoc sent more c))))

pub PassesOn_joined : {S : Type 0} (took : S → S → List ℕ → Type 0) (s t u : S) (a b c m n : List ℕ)
    → ((xs ys : List ℕ) → took s t xs → took t u ys → took s u (xs ++ ys))
    → PassesOn took s t a b m → PassesOn took t u b c n → PassesOn took s u a c (m ++ n)
PassesOn_joined took s t u a b c m n joined h k = record {
  sent = h.sent ++ k.sent;
  taken = joined h.sent k.sent h.taken k.taken;
  cut = joined_cut a b c m n h.sent k.sent h.cut k.cut;
}
