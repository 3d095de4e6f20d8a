use Rattle.std.proofs.Common.{◌∙◌, refl}
use Rattle.qrmatrix.specs.Functions.{is_free, role}
use Rattle.qrmatrix.proofs.UnderMaskLaws.{free_is_light}
use Rattle.qrmatrix.proofs.unmasked.Unmasked.draw.Goals as goal

pub place-requires-clause-light : goal.place-requires-clause-light
unfolding is_free
place-requires-clause-light c =
    λ x y lx ly free. c.draw_functions.ensures.drawn x y lx ly
    ∙ free_is_light c.args.self.now.version (role c.args.self.now.version x y) free

pub returns : goal.returns
returns c =
    record {
      same_version = refl;
      same_level = refl;
      placed = record {
        marked = c.draw_functions.ensures.marked;
        placed = c.place.ensures.placed;
        taken = λ x y lx ly t. c.place.ensures.others x y lx ly t ∙ c.draw_functions.ensures.drawn x y lx ly;
        columns = λ x y l. c.place.ensures.outside.columns x y l ∙ c.draw_functions.ensures.outside.columns x y l
            ∙ c.requires.1 x y;
        rows = λ x y l. c.place.ensures.outside.rows x y l ∙ c.draw_functions.ensures.outside.rows x y l
            ∙ c.requires.1 x y;
      };
    }
