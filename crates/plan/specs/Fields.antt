-- The plan that lent fields hold. Definitions only.
use Rattle.plan.specs.Plan.{Plan}
use Rattle.plan.specs.Answer.{plan_of}
use Rattle.plan.specs.declared.fields.PlanFields.{PlanFields}

abbrev pub fields_plan : PlanFields → Plan
fields_plan p = plan_of p.family p.axes p.bases.now p.polynomials.now p.ms.now
