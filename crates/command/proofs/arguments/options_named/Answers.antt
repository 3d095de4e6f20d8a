use Rattle.std.proofs.Common.{◌∙◌, ap, arith, codes, refl, sym}
use Rattle.clap.specs.Words.{found_of}
use Rattle.command.proofs.NamedLaws.{NumberIs-read, made, mask_in_range, number_read, switch_read}
use Rattle.command.proofs.arguments.options_named.Goals as goal

pub returns : goal.returns
returns c =
    let f = found_of c.args.matches.now in
    let is = c.default-defaults.ensures in
    let flag = c.get_flag-escapes.ensures in
    let scale = NumberIs-read f (codes "scale") _ c.small_number.ensures 1 8 _ _ _ c.requires.scale (omega arith)
    (omega arith) (c.scale.ensures.value ∙ ap (λ o. o.run.scale) is) c.unwrap_or-scale.ensures in
    let height = NumberIs-read f (codes "height") _ c.number.ensures 1 500 _ _ _ c.requires.height (omega arith)
    (omega arith) (c.height.ensures.value ∙ ap (λ o. o.label.height) is) c.unwrap_or-height.ensures in
    let version = NumberIs-read f (codes "min-version") _ c.small_number-2.ensures 1 10 _ _ _ c.requires.min_version
    (omega arith) (omega arith)
    (c.min_version.ensures.value ∙ ap (λ o. o.label.min_version) is)
    c.unwrap_or-min_version.ensures in
    made c.new.result _ c.new.ensures.some c.new.ensures.value (record {
      scale_low = scale.at_least;
      scale_high = scale.at_most;
      height_low = height.at_least;
      height_high = height.at_most;
      version_low = version.at_least;
      version_high = version.at_most;
      mask_fits = mask_in_range f (codes "mask") _ c.small_number-mask.ensures c.requires.mask;
    }) ∙ rw (
      scale.is,
      height.is,
      version.is,
      number_read f (codes "mask") _ c.small_number-mask.ensures,
      switch_read f (codes "escapes") _ flag.none flag.value flag.other c.requires.escapes,
      sym c.format_in.ensures ∙ c.in_ok-format.was,
      sym c.level_in.ensures ∙ c.in_ok-level.was,
    ) refl
