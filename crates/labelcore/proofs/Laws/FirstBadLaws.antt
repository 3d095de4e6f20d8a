-- The first bad setting from the left is the one that is reported.
use Rattle.std.proofs.Common.{◌≡◌, ℕ, ◌+◌, List, [], ◌∷◌, ◌++◌, length, Result, Ok, Err, refl, ap}
use Rattle.std.proofs.Common.{sym, ◌∙◌, arith, length-append, append_assoc, subst}
use Rattle.labelcore.specs.declared.symbology.Symbology.{Symbology}
use Rattle.labelcore.specs.declared.fault.Fault.{Fault}
use Rattle.labelcore.specs.OptionValues.{LabelValues}
use Rattle.labelcore.specs.Settings.{◌>>=◌, with_setting, with_settings, IsFirstBad}

module _ (symbology : Symbology) where
  -- settings after others
  settings_after : (n : ℕ) (front more : List (List ℕ)) (options left : LabelValues)
      → with_settings symbology n front options ≡ Ok left
      → with_settings symbology n (front ++ more) options ≡ with_settings symbology (n + length front) more left
  settings_after n [] more options left e = grind (arith, e)
  settings_after n (setting ∷ front) more options left e =
      let later = λ (next : LabelValues). settings_after (n + 1) front more next left in grind (arith, e, later)

  pub first_bad_decides : (settings : List (List ℕ)) (options : LabelValues) (fault : Fault)
      → IsFirstBad symbology settings options fault → with_settings symbology 1 settings options ≡ Err fault
  first_bad_decides settings options fault h =
      let after = settings_after 1 h.front (h.setting ∷ h.rest) options h.left h.good in
      let cut = h.cut in
      let bad = h.bad in grind (arith, after, cut, bad)

  -- the first bad setting of those that come after some good ones
  after_good : (front settings : List (List ℕ)) (options left : LabelValues) (fault : Fault)
      → with_settings symbology 1 front options ≡ Ok left
      → with_settings symbology (1 + length front) settings left ≡ Err fault
      → IsFirstBad symbology (front ++ settings) options fault
  after_good front [] options left fault good e = cc
  after_good front (setting ∷ more) options left fault good e =
      let longer = front ++ setting ∷ [] in
      let place : (1 + length front) + 1 ≡ 1 + length longer = omega (arith, length-append front (setting ∷ [])) in
      let by_result : (r : Result LabelValues Fault) → with_setting symbology (1 + length front) setting left ≡ r
      → (r >>= (λ next. with_settings symbology ((1 + length front) + 1) more next)) ≡ Err fault
      → IsFirstBad symbology (front ++ setting ∷ more) options fault =
      elim [
        | Err other ↦ λ is all. record {
          front = front;
          setting = setting;
          rest = more;
          left = left;
          cut = refl;
          good = good;
          bad = is ∙ all;
        }
        | Ok next ↦ λ is all.
            subst (λ xs. IsFirstBad symbology xs options fault) (append_assoc front (setting ∷ []) more)
            (after_good longer more options next fault
            (settings_after 1 front (setting ∷ []) options left good ∙ ap (λ r. r >>= (λ next. Ok next)) is)
            (ap (λ k. with_settings symbology k more next) (sym place) ∙ all))
      ] in
      by_result (with_setting symbology (1 + length front) setting left) refl e

  pub first_bad : (settings : List (List ℕ)) (options : LabelValues) (fault : Fault)
      → with_settings symbology 1 settings options ≡ Err fault → IsFirstBad symbology settings options fault
  first_bad settings options fault e = after_good [] settings options options fault refl e
