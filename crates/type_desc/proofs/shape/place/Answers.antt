use Rattle.type_desc.proofs.CountLaws.{fat_place, narrow_place}
use Rattle.type_desc.proofs.shape.place.Goals as goal

pub returns-in-Fat : goal.returns-in-Fat
returns-in-Fat c = fat_place c.args.shape.now c.args.total c.args.w c.fats_before-fats.result c.fats_before-fats.ensures.count c.in-Fat.ensures

pub returns-in-Narrow : goal.returns-in-Narrow
returns-in-Narrow c = narrow_place c.args.shape.now c.args.total c.args.w c.fats_before-fats.result c.fats_before-fats.ensures.count c.in-Narrow.ensures
